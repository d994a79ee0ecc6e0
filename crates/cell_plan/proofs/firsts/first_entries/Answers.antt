use Rattle.cell_plan.proofs.Lists.{firsts_push, seen_more}
use Rattle.cell_plan.proofs.firsts.first_entries.Goals as goal

pub loop-index-preserved : goal.loop-index-preserved
loop-index-preserved c = record {
  seen = λ q. seen_more c.as_slice-entries.result.now c.loop-index.index _ q _ _ c.loop-index-test.true (c.loop-index.invariant.seen q) (c.in_ok-add.ensures.seen q);
  fields = firsts_push c.as_slice-entries.result.now c.loop-index.index _ _ c.loop-index.firsts.entries.items c.add.new.self.entries.items c.loop-index-test.true (c.loop-index.invariant.seen _) c.loop-index.invariant.fields c.in_ok-add.ensures.entries;
}
