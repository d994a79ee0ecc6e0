use Rattle.std.proofs.Common.{◌≡◌, ap, refl, subst, sym, true, ◌∙◌, ◌+◌, ◌<◌, ◌^◌, List, None, map}
use Rattle.std.specs.Prelude.{nat_lt}
use Rattle.cell_link.specs.Linked.{first_unfit}
use Rattle.cell_num.specs.Lists.{In, each_pair}
use Rattle.cell_object.specs.declared.object.Object.{Object}
use Rattle.cell_object.specs.declared.object.Section.{Section}
use Rattle.cell_described.specs.Faults.{object_at}
use Rattle.cell_world.specs.declared.state.SecPlace.{SecPlace}
use Rattle.cell_world.specs.declared.state.Target.{Target}
use Rattle.cell_relinked.specs.Contents.{first_bytes}
use Rattle.cell_relinked.specs.Entries.{AreEntries}
use Rattle.cell_relinked.specs.Fit.{placed_in, start_among}
use Rattle.cell_relinked.specs.Linking.{seen_by, world_in}
use Rattle.cell_relinked.proofs.Earlier.{all_fits}
use Rattle.cell_relinked.proofs.Moving.{object_kept}
use Rattle.cell_relinked.proofs.Sizes.{all_inside, all_written, first_sizes, start_low}
use Rattle.cell_relinked.proofs.contents.relinked_contents.Goals as goal

pub find_fields-requires-clause-fits : goal.find_fields-requires-clause-fits
find_fields-requires-clause-fits c =
    let g = c.args.ground.now in
    let objects = c.args.objects.now.items in
    let cell = c.args.cell.now in
    let are = subst (λ (os : List Object). AreEntries (world_in g os) (seen_by g os cell) c.in_ok-entries.entries) c.deref.ensures.value c.in_ok-entries.ensures in
    subst (λ (ts : List Target). first_unfit (placed_in objects cell) ts ≡ None) (sym (c.deref-2.ensures.value ∙ are.targets)) (all_fits (world_in g objects) (seen_by g objects cell) c.requires.linked)

pub first_contents-requires-clause-low : goal.first_contents-requires-clause-low
first_contents-requires-clause-low c = λ s i.
    let objects = c.args.objects.now.items in
    let cell = c.args.cell.now in
    let sections = c.as_slice-sections.ensures ∙ ap (λ (o : Object). o.sections) (object_kept objects _ cell.object c.index.result.now c.requires.fit.there (c.in_ok-fields.ensures {u = tt}).same c.index.ensures) in
    subst (λ (ps : List SecPlace). start_among ps s.number + s.size < 2 ^ 64) (sym c.as_slice.ensures) (start_low objects cell c.requires.fit s (subst (In s) sections i))

pub write_fields-requires-clause-rising : goal.write_fields-requires-clause-rising
write_fields-requires-clause-rising c =
    let objects = c.args.objects.now.items in
    let cell = c.args.cell.now in
    let sections = c.as_slice-sections.ensures ∙ ap (λ (o : Object). o.sections) (object_kept objects _ cell.object c.index.result.now c.requires.fit.there (c.in_ok-fields.ensures {u = tt}).same c.index.ensures) in
    subst (λ (ss : List Section). each_pair (λ (a b : Section). nat_lt a.number b.number) ss ≡ true) (sym sections) c.requires.fit.loadable.sound.numbers

pub write_fields-requires-clause-sizes : goal.write_fields-requires-clause-sizes
write_fields-requires-clause-sizes c =
    let objects = c.args.objects.now.items in
    let cell = c.args.cell.now in
    let told = c.args.ground.now.told.now in
    let sections = c.as_slice-sections.ensures ∙ ap (λ (o : Object). o.sections) (object_kept objects _ cell.object c.index.result.now c.requires.fit.there (c.in_ok-fields.ensures {u = tt}).same c.index.ensures) in
    first_sizes (object_at objects cell.object) c.requires.fit.loadable.sound told (λ (s : Section). start_among cell.places s.number) c.in_ok-contents.contents.items
    ((c.in_ok-contents.ensures {u = tt})
    ∙ (ap (λ (ps : List SecPlace). map (λ (s : Section). first_bytes told (start_among ps s.number) s) c.as_slice-sections.result.now) c.as_slice.ensures
    ∙ ap (map (λ (s : Section). first_bytes told (start_among cell.places s.number) s)) sections))
    ∙ sym (ap (map (λ (s : Section). s.size)) sections)

pub write_fields-requires-clause-inside : goal.write_fields-requires-clause-inside
write_fields-requires-clause-inside c = λ f s i m e.
    let objects = c.args.objects.now.items in
    let cell = c.args.cell.now in
    let sections = c.as_slice-sections.ensures ∙ ap (λ (o : Object). o.sections) (object_kept objects _ cell.object c.index.result.now c.requires.fit.there (c.in_ok-fields.ensures {u = tt}).same c.index.ensures) in
    all_inside (object_at objects cell.object) c.requires.fit.loadable.sound f s (subst (In f) (c.in_ok-fields.ensures {u = tt}).firsts i) (subst (In s) sections m) e

pub returns-clause-contents : goal.returns-clause-contents
returns-clause-contents c =
    let g = c.args.ground.now in
    let objects = c.args.objects.now.items in
    let cell = c.args.cell.now in
    let told = g.told.now in
    let are = subst (λ (os : List Object). AreEntries (world_in g os) (seen_by g os cell) c.in_ok-entries.entries) c.deref.ensures.value c.in_ok-entries.ensures in
    let fields = c.in_ok-fields.ensures {u = tt} in
    let sections = c.as_slice-sections.ensures ∙ ap (λ (o : Object). o.sections) (object_kept objects _ cell.object c.index.result.now c.requires.fit.there fields.same c.index.ensures) in
    all_written objects cell c.requires.fit (world_in g objects) (seen_by g objects cell) refl told c.deref-2.result.now (c.deref-2.ensures.value ∙ are.targets) c.in_ok-fields.fields.firsts.items c.in_ok-fields.fields.values
    fields.firsts fields.values c.as_slice-sections.result.now sections c.in_ok-contents.contents.items _
    ((c.in_ok-contents.ensures {u = tt}) ∙ ap (λ (ps : List SecPlace). map (λ (s : Section). first_bytes told (start_among ps s.number) s) c.as_slice-sections.result.now) c.as_slice.ensures)
    c.write_fields.ensures
