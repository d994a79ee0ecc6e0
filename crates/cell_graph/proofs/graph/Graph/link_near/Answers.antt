use Rattle.std.proofs.Common.{◌≡◌, ◌<◌, List, length, map, get_or, sym, ap, subst, ◌∙◌, arith}
use Rattle.std.specs.Prelude.{Contains}
use Rattle.std.proofs.lemmas.List.{get_or-map, length-map}
use Rattle.slab.specs.Slab.{get}
use Rattle.cell_world.specs.declared.state.LinkRow.{LinkRow}
use Rattle.cell_graph.specs.declared.order.RowPlace.{RowPlace}
use Rattle.cell_graph.specs.Links.{is_bound}
use Rattle.cell_graph.specs.Places.{link_at}
use Rattle.cell_graph.proofs.Listing.{bound_listed}
use Rattle.cell_graph.proofs.graph.Graph.link_near.Goals as goal

pub index_near-index-requires-clause-bound : goal.index_near-index-requires-clause-bound
index_near-index-requires-clause-bound c =
    sym (bound_listed (get c.self.inside.rows) c.self.inside.row_list.items c.args.user c.args.entry)
    ∙ ap (λ v. is_bound v.rows c.args.user c.args.entry) c.self.view_is
    ∙ c.requires

pub returns-clause-there : goal.returns-clause-there
returns-clause-there c =
    let at = get c.self.inside.rows in
    let list = c.self.inside.row_list.items in
    let index = c.index_near-index.result in
    let d : RowPlace = record { user = c.args.user; entry = c.args.entry; place = 0 } in
    let is = c.index_near-index.ensures.named in
    let found : c.link_named-link.result ≡ link_at at (get_or list index d) = c.link_named-link.ensures d in
    let within : index < length (map (link_at at) list) = omega (arith, is.within, length-map list (link_at at)) in
    let here : get_or (map (link_at at) list) index c.link_named-link.result ≡ c.link_named-link.result = get_or-map (link_at at) list index d c.link_named-link.result is.within ∙ sym found in
    subst (λ (rows : List LinkRow). Contains rows c.link_named-link.result) (ap (λ v. v.rows) c.self.view_is) (index, within, here)

pub returns-clause-user : goal.returns-clause-user
returns-clause-user c =
    let d : RowPlace = record { user = c.args.user; entry = c.args.entry; place = 0 } in
    let is = c.index_near-index.ensures.named in
    ap (λ (r : LinkRow). r.user) (c.link_named-link.ensures d)
    ∙ is.user_is d

pub returns-clause-entry : goal.returns-clause-entry
returns-clause-entry c =
    let d : RowPlace = record { user = c.args.user; entry = c.args.entry; place = 0 } in
    let is = c.index_near-index.ensures.named in
    ap (λ (r : LinkRow). r.entry) (c.link_named-link.ensures d)
    ∙ is.entry_is d
