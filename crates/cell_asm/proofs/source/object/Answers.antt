use Rattle.std.specs.Prelude.{◌≡◌}
use Rattle.cell_asm.proofs.Facts.{None, map, find, sym, ap, ◌∙◌, rules, has_lost, section_kept}
use Rattle.cell_asm.proofs.ObjectLemmas.{first_is, object_is}
use Rattle.cell_asm.proofs.PlacingLemmas.{lost_answer, whole_answer}
use Rattle.cell_asm.proofs.source.object.Goals as goal

pub returns-in-Some : goal.returns-in-Some
returns-in-Some c = λ lines h. lost_answer lines (find (has_lost lines) lines) c.in-Some.line (sym c.in-Some.is ∙ c.first_lost.ensures ∙ first_is c.args.progress.now lines h)

pub returns : goal.returns
returns c = λ lines h.
    let kept = c.args.progress.now in
    let none : c.first_lost.result ≡ None = search rules in
    whole_answer lines (find (has_lost lines) lines) _ (sym none ∙ c.first_lost.ensures ∙ first_is kept lines h)
    (object_is kept lines h c.in_ok-symbols.symbols c.in_ok-sections.sections c.into_list.result c.in_ok-entries.entries c.in_ok-symbols.ensures
    (c.in_ok-sections.ensures ∙ ap (λ ps. map (section_kept ps kept.bodies) ps) c.deref.ensures.value) c.into_list.ensures c.in_ok-entries.ensures)
