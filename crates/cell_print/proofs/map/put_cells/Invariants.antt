use Rattle.std.proofs.Common.{◌≡◌, ◌++◌, drop}
use Rattle.std.specs.List.{flat_map}
use Rattle.cell_print.specs.Lines.{cell_lines, Extends}
use Rattle.cell_print.proofs.map.put_cells.Given as goal

-- the lines of the cells so far, and of those that are left, are all of them
abbrev pub invariant-loop-cell : goal.invariant-loop-cell
invariant-loop-cell l = record {
  all : l.into.items ++ flat_map cell_lines (drop l.cell-index l.cells) ≡ l.fn.into.items ++ flat_map cell_lines l.cells;
  extends : Extends l.fn.into.items l.into.items;
}
