use Rattle.std.proofs.Common.{◌∙◌, ap}
use Rattle.cell_described.specs.Faults.{object_at}
use Rattle.cell_object.specs.declared.object.Object.{Object}
use Rattle.cell_relinked.specs.Scene.{seen_in, world_of}
use Rattle.cell_relinked.proofs.Naming.{named_more, lacking_more}
use Rattle.cell_relinked.proofs.scene.Scene.all_named.Goals as goal

pub loop-index-preserved : goal.loop-index-preserved
loop-index-preserved c =
    let w = world_of c.args.self.now in
    let cell = seen_in c.args.self.now c.args.cell.now in
    let read = c.as_slice-entries.result.now in
    let xs = (object_at c.args.self.now.objects.now c.args.cell.now.object).entries in
    let same = c.as_slice-entries.ensures ∙ ap (λ (o : Object). o.entries) c.object-object.ensures in
    let far = c.loop-index.invariant in
    record {
      targets =
          named_more w cell read xs same c.loop-index.index _ c.loop-index-test.true c.loop-index.targets.items _ c.unwrap_or.result c.named-known.result.target
          c.in_ok-push.ensures.items c.unwrap_or.ensures c.named-known.ensures.target far.targets;
      lacking = c.first_place-lacking.ensures ∙ lacking_more w cell read xs same c.loop-index.index _ c.loop-index-test.true c.loop-index.lacking c.named-known.result.lacking c.named-known.ensures.lacking far.lacking;
      highs = far.highs;
    }
