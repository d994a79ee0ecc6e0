use Rattle.std.proofs.Common.{map, sym, subst, ◌∙◌, Contains}
use Rattle.cell_graph.proofs.Rising.{in_map}
use Rattle.cell_graph.proofs.Sights.{same_key}
use Rattle.cell_graph.proofs.graph.Graph.stands_at.Goals as goal

pub returns-in-Some : goal.returns-in-Some
returns-in-Some g c = λ yes.
    let s = c.in-Some.section in
    let list = c.self.inside.section_list.items in
    let has = in_map (λ x. x.key) list (record { key = s.key; place = c.args.place }) (c.self.invariant.sections_listed.listed c.args.place s (sym c.in-Some.ensures.section)) in
    subst (λ v. Contains v.sections c.args.key) c.self.view_is
    (subst (λ k. Contains (map (λ x. x.key) list) k) (same_key s.key c.args.key (sym c.is_same.ensures ∙ yes)) has)
