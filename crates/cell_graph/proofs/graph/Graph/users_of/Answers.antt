use Rattle.std.proofs.Common.{List, [], map, None, refl, sym, ap, subst, ◌∙◌, Contains}
use Rattle.std.proofs.lemmas.Bool.{false≢true}
use Rattle.std.specs.List.Sorted.{IsPermutation}
use Rattle.std.proofs.lemmas.Option.{same_Some}
use Rattle.slab.specs.Slab.{get}
use Rattle.cell_world.specs.declared.state.LinkRow.{LinkRow}
use Rattle.cell_graph.specs.Links.{links_to}
use Rattle.cell_graph.specs.Walks.{walked}
use Rattle.cell_graph.proofs.Listing.{home_of}
use Rattle.cell_graph.proofs.Outside.{none_to, target_seen}
use Rattle.cell_graph.proofs.Ranges.{permutation_same, users_run, users_walked}
use Rattle.cell_graph.proofs.Rising.{in_map}
use Rattle.cell_graph.proofs.graph.Graph.users_of.Goals as goal

pub of-requires-in-Some : goal.of-requires-in-Some
of-requires-in-Some c =
    let s = c.in-Some.section in
    users_run (get c.self.inside.rows) c.args.sec c.self.inside.row_list.items c.self.invariant.rows_listed s
    (c.self.invariant.chained.chain c.place-place.result s (sym c.in-Some.ensures))

pub returns : goal.returns
returns c =
    let s = c.in-Some.section in
    let named = c.place-place.ensures in
    let home = home_of (get c.self.inside.sections) c.self.inside.section_list.items c.args.sec c.place-place.result c.self.invariant.sections_listed named in
    let key = ap (λ x. x.key) (same_Some s home.section (c.in-Some.ensures ∙ home.is)) ∙ home.named in
    let walk = users_walked (get c.self.inside.rows) c.args.sec c.self.inside.row_list.items c.self.invariant.rows_listed s key
    (c.self.invariant.chained.chain c.place-place.result s (sym c.in-Some.ensures)) in
    subst (λ (l : List LinkRow). IsPermutation (links_to c.args.sec c.args.self.now.rows) l) (sym c.of-in-Some.ensures)
    (subst (λ v. IsPermutation (links_to c.args.sec v.rows) (walked (get c.self.inside.rows) s.users s.first)) c.self.view_is walk)

pub of-requires : goal.of-requires
of-requires c = record { key = c.args.sec; before = None; places = []; counted = refl; linked = refl }

pub returns-then-not-has : goal.returns-then-not-has
returns-then-not-has c =
    let rows = c.args.self.now.rows in
    let none = none_to c.args.sec rows (λ r has to.
    let s = target_seen (get c.self.inside.rows) (get c.self.inside.sections) c.self.inside.section_list.items c.self.inside.row_list.items r c.self.invariant (subst (λ v. Contains v.rows r) (sym c.self.view_is) has) in
    let named = subst (λ k. Contains (map (λ x. x.key) c.self.inside.section_list.items) k) (s.2 ∙ to) (in_map (λ x. x.key) c.self.inside.section_list.items s.0 s.1) in
    false≢true (sym c.if-not-has.true ∙ c.has.ensures.1 named)) in
    permutation_same (links_to c.args.sec rows) c.of.result (none ∙ sym c.of.ensures)
