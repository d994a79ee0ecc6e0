use Rattle.std.proofs.Common.{◌||◌, sym, ap, subst, ◌∙◌, arith, Contains}
use Rattle.std.specs.List.{list_any}
use Rattle.std.proofs.lemmas.List.{take_all}
use Rattle.slab.specs.Slab.{get}
use Rattle.cell_graph.specs.declared.order.SectionPlace.{SectionPlace}
use Rattle.cell_graph.specs.Users.{is_marked, leads_to}
use Rattle.cell_graph.proofs.Marking.{marked_more, users_by_sections}
use Rattle.cell_graph.proofs.Outside.{no_section, in_section_range, of_section_range, target_seen}
use Rattle.cell_graph.proofs.Rising.{at_index, in_map}
use Rattle.cell_graph.proofs.graph.Graph.mark_counted.Goals as goal

pub mark_users_of_section-requires : goal.mark_users_of_section-requires
mark_users_of_section-requires g c =
    let part = c.of_cell-sections.result in
    let range = c.of_cell-sections.ensures in
    let s = c.at-at.result in
    let has = subst (λ (x : SectionPlace). Contains part x) (sym (c.at-at.ensures.place no_section)) (at_index part c.loop-index.index no_section (omega (arith, c.loop-index-test.true, c.len-index-end.ensures))) in
    let there = of_section_range c.self.inside.section_list.items part c.args.cell.0 range s has in
    subst (λ v. Contains v.sections s.key) c.self.view_is (in_map (λ x. x.key) c.self.inside.section_list.items s there.0)

pub loop-index-preserved : goal.loop-index-preserved
loop-index-preserved g c =
    let rows = c.args.self.now.rows in
    λ n. marked_more rows c.of_cell-sections.result c.loop-index.index n no_section _ _ _ (omega (arith, c.loop-index-test.true, c.len-index-end.ensures))
    (c.in_ok-next.ensures.marks n ∙ ap (λ (s : SectionPlace). is_marked c.loop-index.marks.items n || leads_to s.key rows n) (c.at-at.ensures.place no_section))
    (c.loop-index.invariant n)

pub returns : goal.returns
returns g c =
    let part = c.of_cell-sections.result in
    let range = c.of_cell-sections.ensures in
    let rows = c.args.self.now.rows in
    let all = take_all c.loop-index.index part (omega (arith, c.loop-index-test.false)) in
    λ n.
    c.loop-index.invariant n
    ∙ ap (λ b. is_marked c.args.marks.now.items n || b)
    (ap (list_any (λ (s : SectionPlace). leads_to s.key rows n)) all
    ∙ users_by_sections c.args.cell.0 rows part (λ s has. (of_section_range c.self.inside.section_list.items part c.args.cell.0 range s has).1)
    (λ r has of.
    let seen = subst (λ v. Contains v.rows r) (sym c.self.view_is) has in
    let s = target_seen (get c.self.inside.rows) (get c.self.inside.sections) c.self.inside.section_list.items c.self.inside.row_list.items r c.self.invariant seen in
    (s.0, in_section_range c.self.inside.section_list.items part c.args.cell.0 range s.0 s.1 (ap (λ k. k.cell.0) s.2 ∙ of), s.2)) n)
