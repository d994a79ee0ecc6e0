use Rattle.std.proofs.Common.{◌≡◌, ◌+◌}
use Rattle.cell_change.specs.OldCells.{CanReturn, IsPut}
use Rattle.cell_change.proofs.Return.Returning.{still_aside}
use Rattle.cell_change.proofs.old_cells.reattach.Given as goal

-- the cells so far are attached again, and nothing else changes
abbrev pub invariant-loop-cell : goal.invariant-loop-cell
invariant-loop-cell l = record {
  known : (r : CanReturn l.fn.machine l.old) → IsPut r.before.spaces.cells (r.before.swaps + 1) (still_aside l.old l.cell-index) l.machine.spaces.cells;
  namespaces : l.machine.spaces.namespaces ≡ l.fn.machine.spaces.namespaces;
  others : l.machine ≡ record l.fn.machine { spaces = l.machine.spaces };
}
