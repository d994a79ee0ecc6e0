use Rattle.cell_plan.proofs.Stepping.{AreTaken}
use Rattle.cell_plan.proofs.steps.take_steps.Given as goal

-- the entries so far
abbrev pub invariant-loop-index : goal.invariant-loop-index
invariant-loop-index l = AreTaken l.cell l.targets l.links l.fn.into l.index l.place l.marks.items l.into
