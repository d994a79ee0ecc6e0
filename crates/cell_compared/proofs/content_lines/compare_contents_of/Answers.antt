use Rattle.std.proofs.Common.{ap, length, map, subst, sym, List, ℕ, ◌∙◌}
use Rattle.std.specs.Prelude.{flat_map}
use Rattle.cell_num.specs.Lists.{In}
use Rattle.cell_object.specs.declared.object.Object.{Object}
use Rattle.cell_object.specs.declared.object.Section.{Section}
use Rattle.cell_relinked.specs.Linking.{seen_by}
use Rattle.cell_relinked.proofs.Moving.{object_kept}
use Rattle.cell_relinked.proofs.Sizes.{start_low}
use Rattle.cell_compared.proofs.Sized.{relinked_sizes}
use Rattle.cell_compared.specs.Left.{left}
use Rattle.cell_compared.specs.Shown.{lines_at, relinked_in}
use Rattle.cell_compared.proofs.Walking.{walks_same}
use Rattle.cell_compared.proofs.content_lines.compare_contents_of.Goals as goal

pub compare_sections-requires-clause-sizes : goal.compare_sections-requires-clause-sizes
compare_sections-requires-clause-sizes c =
    let g = c.args.ground.now in
    let objects = c.args.objects.now.items in
    let cell = c.args.cell.now in
    let contents = c.in_ok-contents.ensures {u = tt} in
    let sections = c.as_slice-sections.ensures ∙ ap (λ (o : Object). o.sections) (object_kept objects _ cell.object c.index.result.now c.requires.fit.there contents.same c.index.ensures) in
    ap (map (λ (bytes : List ℕ). length bytes)) (c.deref.ensures.value ∙ contents.contents) ∙ relinked_sizes g objects cell c.requires.fit ∙ sym (ap (map (λ (s : Section). s.size)) sections)

pub compare_sections-requires-clause-low : goal.compare_sections-requires-clause-low
compare_sections-requires-clause-low c = λ s i.
    let objects = c.args.objects.now.items in
    let cell = c.args.cell.now in
    let contents = c.in_ok-contents.ensures {u = tt} in
    let sections = c.as_slice-sections.ensures ∙ ap (λ (o : Object). o.sections) (object_kept objects _ cell.object c.index.result.now c.requires.fit.there contents.same c.index.ensures) in
    start_low objects cell c.requires.fit s (subst (In s) sections i)

pub returns-clause-walks : goal.returns-clause-walks
returns-clause-walks c =
    let g = c.args.ground.now in
    let objects = c.args.objects.now.items in
    let cell = c.args.cell.now in
    let contents = c.in_ok-contents.ensures {u = tt} in
    let sections = c.as_slice-sections.ensures ∙ ap (λ (o : Object). o.sections) (object_kept objects _ cell.object c.index.result.now c.requires.fit.there contents.same c.index.ensures) in
    let content : Section → List ℕ = relinked_in g objects (seen_by g objects cell) in
    walks_same (left c.args.cursor.now) (left c.compare_sections.new.cursor) _ _ c.compare_sections.result (ap (flat_map (λ (s : Section). lines_at cell s (content s))) sections)
    (c.compare_sections.ensures content (c.deref.ensures.value ∙ (contents.contents ∙ sym (ap (map content) sections))))
