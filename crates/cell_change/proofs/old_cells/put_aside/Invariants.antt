use Rattle.std.proofs.Common.{◌≡◌, take}
use Rattle.cell_change.specs.OldCells.{IsPut, among}
use Rattle.cell_change.proofs.old_cells.put_aside.Given as goal

-- the cells so far are put aside, and nothing else changes
abbrev pub invariant-loop-cell : goal.invariant-loop-cell
invariant-loop-cell l = record {
  known : IsPut l.fn.machine.spaces.cells l.swap (among (take l.cell-index l.old)) l.machine.spaces.cells;
  namespaces : l.machine.spaces.namespaces ≡ l.fn.machine.spaces.namespaces;
  others : l.machine ≡ record l.initial.machine { spaces = l.machine.spaces };
}
