use Rattle.std.proofs.Common.{List, sym, ap, subst, ◌∙◌}
use Rattle.std.specs.List.Sorted.{IsPermutation}
use Rattle.std.proofs.lemmas.Option.{same_Some}
use Rattle.slab.specs.Slab.{get}
use Rattle.cell_world.specs.declared.state.LinkRow.{LinkRow}
use Rattle.cell_graph.specs.Links.{links_to}
use Rattle.cell_graph.specs.Walks.{walked}
use Rattle.cell_graph.proofs.Listing.{home_of}
use Rattle.cell_graph.proofs.Ranges.{users_run, users_walked}
use Rattle.cell_graph.proofs.graph.Graph.users_near.Goals as goal

pub of-requires : goal.of-requires
of-requires c =
    let s = c.in-Some.section in
    users_run (get c.self.inside.rows) c.args.sec c.self.inside.row_list.items c.self.invariant.rows_listed s
    (c.self.invariant.chained.chain c.place_near-place.result.0 s (sym c.in-Some.ensures))

pub returns-clause-users : goal.returns-clause-users
returns-clause-users c =
    let s = c.in-Some.section in
    let named = c.place_near-place.ensures.named in
    let home = home_of (get c.self.inside.sections) c.self.inside.section_list.items c.args.sec c.place_near-place.result.0 c.self.invariant.sections_listed named in
    let key = ap (λ x. x.key) (same_Some s home.section (c.in-Some.ensures ∙ home.is)) ∙ home.named in
    let walk = users_walked (get c.self.inside.rows) c.args.sec c.self.inside.row_list.items c.self.invariant.rows_listed s key
    (c.self.invariant.chained.chain c.place_near-place.result.0 s (sym c.in-Some.ensures)) in
    subst (λ (l : List LinkRow). IsPermutation (links_to c.args.sec c.args.self.now.rows) l) (sym c.of.ensures)
    (subst (λ v. IsPermutation (links_to c.args.sec v.rows) (walked (get c.self.inside.rows) s.users s.first)) c.self.view_is walk)
