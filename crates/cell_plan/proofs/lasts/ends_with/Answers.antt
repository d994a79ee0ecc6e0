use Rattle.cell_plan.proofs.Ends.{end_more}
use Rattle.cell_plan.proofs.lasts.ends_with.Goals as goal

pub loop-index-preserved : goal.loop-index-preserved
loop-index-preserved c = λ q.
    end_more c.args.cell.now c.as_slice-entries.result.now c.loop-index.index _ q _ _ c.loop-index-test.true (c.loop-index.invariant q) (c.in_ok-take_in.ensures q)
