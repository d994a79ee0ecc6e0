use Rattle.std.proofs.Common.{arith}
use Rattle.cell_target.proofs.HighEntries.{highs_more}
use Rattle.cell_target.proofs.highs.highs_of.Goals as goal

pub loop-index-preserved : goal.loop-index-preserved
loop-index-preserved c = λ q. highs_more c.args.entries.now c.loop-index.index _ q _ _ (omega arith) (c.in_ok-insert_high.ensures q) (c.loop-index.invariant q)
