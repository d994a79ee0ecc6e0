use Rattle.std.proofs.Common.{refl}
use Rattle.cell_object.specs.declared.object.Section.{Section}
use Rattle.cell_world.proofs.InOrder.{none_there, other_there}
use Rattle.cell_relinked.proofs.Gotten.{got_by_test}
use Rattle.cell_relinked.proofs.writing.place_of.Goals as goal

pub returns-in_err-section-clause-none : goal.returns-in_err-section-clause-none
returns-in_err-section-clause-none c = λ e.
    none_there (λ (s : Section). s.number) c.args.number c.args.sections.now c.requires c.sections_before-place.result c.sections_before-place.ensures (c.in_err-section.ensures {u = tt}).lookup.0

pub returns-then-section-number-clause-none : goal.returns-then-section-number-clause-none
returns-then-section-number-clause-none c = λ e.
    let at = (c.in_ok-section.ensures {u = tt}).lookup in
    other_there (λ (s : Section). s.number) c.args.number c.args.sections.now c.requires c.sections_before-place.result c.sections_before-place.ensures c.in_ok-section.section.now at.0 at.1 c.if-section-number.true

pub returns-clause-found : goal.returns-clause-found
returns-clause-found c =
    let at = (c.in_ok-section.ensures {u = tt}).lookup in
    record {
      section = c.in_ok-section.section.now;
      there = got_by_test c.args.sections.now c.args.sections.now refl c.sections_before-place.result c.in_ok-section.section.now at.1 at.0;
      number_is = c.if-section-number.false;
    }
