use Rattle.std.proofs.Common.{◌≡◌, ◌∙◌, subst, sym, get_or}
use Rattle.cell_object.specs.declared.object.Object.{Object}
use Rattle.cell_relinked.proofs.Moving.{moved_link, object_there, put_back}
use Rattle.cell_relinked.proofs.link.link_described.Goals as goal

pub returns-clause-same : goal.returns-clause-same
returns-clause-same c =
    let taken = c.replace-object.ensures.value in
    let there = c.index_mut.ensures.value in
    put_back c.args.objects.now.items c.args.cell.now.object _ c.replace-object.result (subst (λ (o : Object). o ≡ get_or c.args.objects.now.items c.args.cell.now.object o) (sym taken) there)

pub returns-clause-linked : goal.returns-clause-linked
returns-clause-linked c =
    let taken = c.replace-object.ensures.value in
    let there = c.index_mut.ensures.value in
    moved_link c.args.objects.now.items c.args.cell.now c.in_ok-stem.stem c.in_ok-file.file c.replace-object.result c.in_ok-places.places
    (taken ∙ object_there c.args.objects.now.items c.args.cell.now.object c.index_mut.result.now c.requires.fit.there there)
    (c.in_ok-places.ensures ∙ c.as_slice.ensures) c.args.targets.now c.link_cell-fields.result c.link_cell-fields.ensures
