use Rattle.std.proofs.Common.{◌-◌, length}
use Rattle.cell_bearers.proofs.Rowing.{AreSoFar}
use Rattle.cell_bearers.proofs.index.Index.add_rows.Given as goal

-- the names so far have their rows
abbrev pub invariant-loop-start : goal.invariant-loop-start
invariant-loop-start l = AreSoFar l.namings l.start l.fn.self l.self

abbrev pub decreases-loop-start : goal.decreases-loop-start
decreases-loop-start l = length l.namings - l.start
