use Rattle.std.proofs.Common.{◌≡◌, ◌++◌, map, take}
use Rattle.std.specs.List.{concat}
use Rattle.cell_print.specs.Pieces.{text}
use Rattle.cell_print.proofs.line.put_line.Given as goal

-- the pieces so far were appended
abbrev pub invariant-loop-piece : goal.invariant-loop-piece
invariant-loop-piece l = l.into.items ≡ l.fn.into.items ++ concat (map text (take l.piece-index l.pieces))
