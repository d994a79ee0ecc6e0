use Rattle.std.specs.BTreeSet.{contains}
use Rattle.cell_link.specs.Tables.{spot_cmp}
use Rattle.cell_link.specs.Applied.{spot_of}
use Rattle.cell_plan.proofs.Lists.{fields_more}
use Rattle.cell_plan.proofs.changes.fields_at.Goals as goal

pub loop-index-preserved : goal.loop-index-preserved
loop-index-preserved c = λ value are.
    fields_more value (λ f. contains spot_cmp c.args.spots.now (spot_of f)) c.args.firsts.now c.args.values.now c.loop-index.index _ _ c.loop-index.changes.items c.add_change.new.changes.items
    c.loop-index-test.true are (c.loop-index.invariant value are) c.in_ok-add_change.ensures
