use Rattle.std.proofs.Common.{◌≡◌, ◌++◌, map, drop}
use Rattle.std.specs.Prelude.{codes}
use Rattle.std.specs.Fmt.{decimal}
use Rattle.std.specs.List.{flat_map}
use Rattle.cell_print.specs.Lines.{spaced, Extends}
use Rattle.cell_print.specs.Pieces.{text}
use Rattle.cell_print.proofs.line.put_answer.Given as goal

-- the pieces so far, and those that are left, are all of them
abbrev pub invariant-loop-piece : goal.invariant-loop-piece
invariant-loop-piece l = record {
  all : l.into.items ++ flat_map spaced (map text (drop l.piece-index l.pieces)) ≡ l.fn.into.items ++ (decimal l.number ++ (codes " " ++ (l.words ++ flat_map spaced (map text l.pieces))));
  extends : Extends l.fn.into.items l.into.items;
}
