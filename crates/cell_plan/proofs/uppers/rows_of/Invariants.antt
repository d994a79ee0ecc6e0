use Rattle.std.proofs.Common.{take}
use Rattle.cell_plan.specs.Uppers.{IsUppers}
use Rattle.cell_plan.proofs.uppers.rows_of.Given as goal

-- those of the entries so far
abbrev pub invariant-loop-index : goal.invariant-loop-index
invariant-loop-index l = IsUppers (take l.index l.entries) l.rows
