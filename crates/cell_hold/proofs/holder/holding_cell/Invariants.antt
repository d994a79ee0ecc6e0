use Rattle.std.proofs.Common.{◌≡◌, drop}
use Rattle.cell_hold.specs.Reached.{linked}
use Rattle.cell_hold.proofs.Claiming.{cells_left}
use Rattle.cell_hold.proofs.holder.holding_cell.Given as goal

-- the cells that are left decide
abbrev pub invariant-loop-other : goal.invariant-loop-other
invariant-loop-other l = cells_left (linked l.graph l.memory l.places) l.cell.0 l.cells ≡ cells_left (linked l.graph l.memory l.places) l.cell.0 (drop l.other-index l.cells)
