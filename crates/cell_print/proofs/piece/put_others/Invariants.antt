use Rattle.std.proofs.Common.{◌≡◌, ◌++◌, drop}
use Rattle.std.specs.List.{flat_map}
use Rattle.cell_print.specs.Lines.{cell_word, spaced, Extends}
use Rattle.cell_print.proofs.piece.put_others.Given as goal

-- the cells so far, and those that are left, are all of them
abbrev pub invariant-loop-cell : goal.invariant-loop-cell
invariant-loop-cell l = record {
  all : l.into.items ++ flat_map (λ cell. spaced (cell_word cell)) (drop l.cell-index l.cells) ≡ l.fn.into.items ++ flat_map (λ cell. spaced (cell_word cell)) l.cells;
  extends : Extends l.fn.into.items l.into.items;
}
