use Rattle.std.proofs.Common.{take}
use Rattle.cell_plan.specs.Lasts.{IsLasts}
use Rattle.cell_plan.proofs.lasts.ends_with.Given as goal

-- those of the entries so far
abbrev pub invariant-loop-index : goal.invariant-loop-index
invariant-loop-index l = IsLasts l.cell (take l.index l.entries) l.ends
