use Rattle.std.proofs.Common.{◌≡◌, drop, false}
use Rattle.cell_hold.specs.Adds.{has_cell}
use Rattle.cell_hold.proofs.found.is_listed.Given as goal

-- the cell is none of those from there on
abbrev pub invariant-loop-place : goal.invariant-loop-place
invariant-loop-place l = has_cell (drop l.place l.cells) l.cell.0 ≡ false
