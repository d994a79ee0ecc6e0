use Rattle.std.proofs.Common.{◌≡◌, ◌+◌, ◌++◌, drop, length, map}
use Rattle.cell_commit.specs.Cells.{arrived}
use Rattle.cell_machine.specs.Staged.{arrivals}
use Rattle.cell_load.proofs.prepared.newcomers.Given as goal

-- those so far, with those of the cells and names that are left, are all
abbrev pub invariant-loop-names : goal.invariant-loop-names
invariant-loop-names l = record {
  left : length l.newcomers.items + length l.names-iterator.rest.items ≡ length l.cells;
  so_far : map arrived l.newcomers.items ++ arrivals (drop (length l.newcomers.items) l.cells) l.names-iterator.rest.items ≡ arrivals l.cells l.fn.names.items;
}
