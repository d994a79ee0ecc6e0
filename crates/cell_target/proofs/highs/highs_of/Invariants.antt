use Rattle.std.proofs.Common.{take}
use Rattle.cell_target.specs.Highs.{IsHighs}
use Rattle.cell_target.proofs.highs.highs_of.Given as goal

-- those of the entries so far
abbrev pub invariant-loop-index : goal.invariant-loop-index
invariant-loop-index l = IsHighs (take l.index l.entries) l.highs
