use Rattle.std.proofs.Common.{◌≡◌, take}
use Rattle.cell_machine.specs.Machine.{soft_of}
use Rattle.cell_load.proofs.prepared.soft_cells.Given as goal

-- those of the cells so far
abbrev pub invariant-loop-cell : goal.invariant-loop-cell
invariant-loop-cell l = l.soft.items ≡ soft_of (take l.cell-index l.cells)
