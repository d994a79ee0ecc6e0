use Rattle.std.proofs.Common.{◌≡◌, ◌∙◌, true, List, refl, ap, subst, sym, take_all, arith}
use Rattle.std.specs.Prelude.{is_some}
use Rattle.slab.specs.Slab.{ContainsKey, get}
use Rattle.cell_graph.specs.Dropped.{AreDropped, DropsIf}
use Rattle.cell_graph.specs.Removal.{is_listed}
use Rattle.cell_graph.specs.declared.order.SectionPlace.{SectionPlace}
use Rattle.cell_graph.proofs.Dropping.{dropped_more, next_section, none_dropped}
use Rattle.cell_graph.proofs.Outside.{no_section}
use Rattle.cell_graph.proofs.links.drop_listed_sections.Goals as goal

pub loop-index-init : goal.loop-index-init
loop-index-init g c = record {
  sections = none_dropped (λ (s : SectionPlace). s.place) (λ s. is_listed c.args.cells.now s.key) (get c.args.sections.now) c.args.section_list.now.items;
  steps = omega arith;
  count = omega arith;
  capacity = refl;
}

pub drop_listed_section-requires : goal.drop_listed_section-requires
drop_listed_section-requires g c =
    let list = c.args.section_list.now.items in
    subst (λ (s : SectionPlace). is_listed c.args.cells.now s.key ≡ true → ContainsKey c.loop-index.sections s.place) (sym (c.at-at.ensures.place no_section))
    (λ h.
    ap is_some (next_section (get c.args.sections.now) (get c.loop-index.sections) list c.requires (λ s. is_listed c.args.cells.now s.key)
    c.loop-index.index no_section (omega (arith, c.loop-index-test.true, c.len-index-end.ensures)) c.loop-index.invariant.sections).1)

pub loop-index-preserved : goal.loop-index-preserved
loop-index-preserved g c =
    let inv = c.loop-index.invariant in
    let step = c.drop_listed_section.ensures in
    let out = λ (s : SectionPlace). is_listed c.args.cells.now s.key in
    let drops = subst (λ (s : SectionPlace). DropsIf (out s) (get c.loop-index.sections) (get c.drop_listed_section.new.sections) s.place) (c.at-at.ensures.place no_section) step.sections in
    record {
      sections = dropped_more (λ (s : SectionPlace). s.place) out (get c.args.sections.now) c.args.section_list.now.items c.loop-index.index no_section
          (get c.loop-index.sections) (get c.drop_listed_section.new.sections) (omega (arith, c.loop-index-test.true, c.len-index-end.ensures)) inv.sections drops;
      steps = omega (arith, c.at-at.ensures.step, inv.steps);
      count = omega (arith, step.count, inv.count);
      capacity = step.capacity ∙ inv.capacity;
    }

pub returns-clause-sections : goal.returns-clause-sections
returns-clause-sections g c =
    subst (λ (l : List SectionPlace). AreDropped (λ (s : SectionPlace). s.place) (λ s. is_listed c.args.cells.now s.key) (get c.args.sections.now) (get c.loop-index.sections) l)
    (take_all c.loop-index.index c.args.section_list.now.items (omega (arith, c.loop-index-test.false, c.len-index-end.ensures))) c.loop-index.invariant.sections
