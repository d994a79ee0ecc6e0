use Rattle.std.proofs.Common.{take}
use Rattle.cell_plan.specs.Changes.{IsSpots}
use Rattle.cell_plan.proofs.spots.spots_of.Given as goal

-- those of the entries so far
abbrev pub invariant-loop-index : goal.invariant-loop-index
invariant-loop-index l = IsSpots (take l.index l.entries) (take l.index l.marks) l.spots
