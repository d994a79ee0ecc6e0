use Rattle.cell_plan.proofs.Scanning.{AreScanned}
use Rattle.cell_plan.proofs.values.scanned.Given as goal

-- the entries so far
abbrev pub invariant-loop-index : goal.invariant-loop-index
invariant-loop-index l = AreScanned l.cell l.targets l.index l.values.items
