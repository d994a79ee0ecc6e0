use Rattle.std.proofs.Common.{◌≡◌, get_or, sym, ap, subst, ◌∙◌, arith, Contains}
use Rattle.slab.specs.Slab.{get}
use Rattle.std.proofs.lemmas.Bool.{cases_eq}
use Rattle.std.proofs.Common.{inl, inr}
use Rattle.cell_graph.specs.declared.order.SectionPlace.{SectionPlace}
use Rattle.cell_graph.proofs.Outside.{no_section, in_section_range, of_section_range, same_default, target_seen}
use Rattle.cell_graph.proofs.Rising.{at_index, in_map}
use Rattle.cell_graph.proofs.graph.Graph.outside_user_of.Goals as goal

pub loop-index-init : goal.loop-index-init
loop-index-init g c = λ k d below. absurd (omega arith)

pub outside_user-requires : goal.outside_user-requires
outside_user-requires g c =
    let part = c.of_cell-sections.result in
    let range = c.of_cell-sections.ensures in
    let s = c.at-at.result in
    let has = subst (λ (x : SectionPlace). Contains part x) (sym (c.at-at.ensures.place no_section)) (at_index part c.loop-index.index no_section (omega (arith, c.loop-index-test.true, c.len-index-end.ensures))) in
    let there = of_section_range c.self.inside.section_list.items part c.args.cell.0 range s has in
    subst (λ v. Contains v.sections s.key) c.self.view_is (in_map (λ x. x.key) c.self.inside.section_list.items s there.0)

pub returns-in-Some-clause-some : goal.returns-in-Some-clause-some
returns-in-Some-clause-some g c =
    let part = c.of_cell-sections.result in
    let range = c.of_cell-sections.ensures in
    let s = c.at-at.result in
    let has = subst (λ (x : SectionPlace). Contains part x) (sym (c.at-at.ensures.place no_section)) (at_index part c.loop-index.index no_section (omega (arith, c.loop-index-test.true, c.len-index-end.ensures))) in
    let there = of_section_range c.self.inside.section_list.items part c.args.cell.0 range s has in
    record { sec = s.key; of = there.1; used = (c.in-Some.ensures {u = tt}).some }

pub loop-index-preserved : goal.loop-index-preserved
loop-index-preserved g c =
    let part = c.of_cell-sections.result in
    λ k d below r has to. elim (cases_eq k c.loop-index.index) [
      | inl same ↦
          let key : r.target ≡ c.at-at.result.key =
          to ∙ ap (λ n. (get_or part n d).key) same ∙ ap (λ s. s.key) (same_default part c.loop-index.index d no_section (omega (arith, c.loop-index-test.true, c.len-index-end.ensures)))
          ∙ sym (ap (λ s. s.key) (c.at-at.ensures.place no_section)) in
          (c.in_default.ensures {u = tt}).none r has key
      | inr other ↦ c.loop-index.invariant k d (omega arith) r has to
    ]

pub returns-clause-none : goal.returns-clause-none
returns-clause-none g c =
    let part = c.of_cell-sections.result in
    let range = c.of_cell-sections.ensures in
    λ r has of.
    let seen = subst (λ v. Contains v.rows r) (sym c.self.view_is) has in
    let s = target_seen (get c.self.inside.rows) (get c.self.inside.sections) c.self.inside.section_list.items c.self.inside.row_list.items r c.self.invariant seen in
    let there = in_section_range c.self.inside.section_list.items part c.args.cell.0 range s.0 s.1 (ap (λ k. k.cell.0) s.2 ∙ of) in
    c.loop-index.invariant there.0 s.0 (omega (arith, there.1)) r has (sym s.2 ∙ ap (λ x. x.key) (sym there.2))
