use Rattle.std.proofs.Common.{◌∙◌, ap, get_or}
use Rattle.std.proofs.Math.ListN.{set}
use Rattle.cell_space.specs.Named.{put_into}
use Rattle.cell_space.proofs.Changes.{set_more}
use Rattle.cell_space.proofs.rows.set_state.Goals as goal

pub loop-cell-preserved : goal.loop-cell-preserved
loop-cell-preserved c =
    let i = c.loop-cell.cell-index in
    let f = put_into c.args.state c.args.number in
    ap (set c.loop-cell.cell-items i) c.put_into.ensures
    ∙ ap (λ items. set items i (f (get_or items i c.cell-item.result))) c.loop-cell.invariant
    ∙ set_more f c.deref_mut-cell-items.result.now i c.cell-item.result c.loop-cell-test.true
