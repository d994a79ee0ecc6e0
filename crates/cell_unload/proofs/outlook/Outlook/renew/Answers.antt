use Rattle.std.proofs.Common.{◌∙◌, ap, get_or}
use Rattle.std.proofs.Math.ListN.{set}
use Rattle.cell_unload.specs.Begun.{renewed_root}
use Rattle.cell_space.proofs.Changes.{set_more}
use Rattle.cell_unload.proofs.outlook.Outlook.renew.Goals as goal

pub loop-root-preserved : goal.loop-root-preserved
loop-root-preserved c =
    let i = c.loop-root.root-index in
    let f = renewed_root c.args.view in
    ap (set c.loop-root.root-items i) c.renew_root.ensures
    ∙ ap (λ items. set items i (f (get_or items i c.root-item.result))) c.loop-root.invariant
    ∙ set_more f c.deref_mut-root-items.result.now i c.root-item.result c.loop-root-test.true
