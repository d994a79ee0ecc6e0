use Rattle.std.proofs.Common.{◌∙◌, sym, ap, ap₂, arith, Bool, List, ◌||◌, ◌&&◌}
use Rattle.std.specs.BTreeSet.{contains}
use Rattle.std.proofs.lemmas.List.{take_all}
use Rattle.cell_object.specs.declared.object.Entry.{Entry}
use Rattle.cell_link.specs.Tables.{spot_cmp}
use Rattle.cell_plan.specs.Firsts.{is_entry_at}
use Rattle.cell_plan.specs.Steps.{is_marked_spot}
use Rattle.cell_plan.proofs.Marking.{spots_kept}
use Rattle.cell_plan.proofs.spots.spots_of.Goals as goal

pub loop-index-preserved : goal.loop-index-preserved
loop-index-preserved c = λ q.
    spots_kept c.args.entries.now c.args.marks.now c.loop-index.index _ _ q _ _ (c.in_ok-add_spot.ensures q) (c.loop-index.invariant q) c.loop-index-test.true c.requires

pub returns : goal.returns
returns c = λ q.
    c.loop-index.invariant q
    ∙ ap₂ (λ (es : List Entry) (ms : List Bool). is_marked_spot es ms q) (take_all c.loop-index.index c.args.entries.now c.loop-index-test.false) (take_all c.loop-index.index c.args.marks.now (omega (arith, c.loop-index-test.false, c.requires)))
