use Rattle.std.proofs.Common.{◌≡◌, ◌+◌, ◌∙◌, List, length, map, ap, sym, subst, arith}
use Rattle.std.proofs.lemmas.List.{length-map}
use Rattle.slab.specs.Slab.{get}
use Rattle.cell_world.specs.declared.state.LinkRow.{LinkRow}
use Rattle.cell_graph.specs.declared.order.RowPlace.{RowPlace}
use Rattle.cell_graph.specs.Listed.{IsWhole}
use Rattle.cell_graph.specs.Order.{below_link}
use Rattle.cell_graph.specs.Places.{link_at}
use Rattle.cell_graph.proofs.Sights.{rises_mapped}
use Rattle.cell_graph.proofs.Unbinding.{so_many_less}
use Rattle.cell_graph.proofs.links.unbind_rows.Goals as goal

pub returns-clause-whole : goal.returns-clause-whole
returns-clause-whole g c =
    subst (λ (l : List RowPlace). IsWhole (get c.unbind_each.new.rows) (get c.unbind_each.new.sections) c.args.section_list.now.items l) (sym c.keep_standing.ensures.items) c.unbind_each.ensures.whole

pub returns-clause-left : goal.returns-clause-left
returns-clause-left g c = ap (map (link_at (get c.unbind_each.new.rows))) c.keep_standing.ensures.items ∙ c.unbind_each.ensures.left

pub returns-clause-list_room : goal.returns-clause-list_room
returns-clause-list_room g c =
    let at = get c.args.rows.now in
    let new = get c.unbind_each.new.rows in
    let list = c.args.row_list.now.items in
    let after = c.keep_standing.new.self.items in
    let left = ap (map (link_at new)) c.keep_standing.ensures.items ∙ c.unbind_each.ensures.left in
    let less = so_many_less (map (link_at at) list) c.args.gone.now (rises_mapped (link_at at) below_link list c.requires.whole.rows_listed.rise) c.requires.there in
    let many : length after + length c.args.gone.now ≡ length list
    = omega (arith, length-map after (link_at new), length-map list (link_at at), ap (length {A = LinkRow}) left, less) in
    omega (arith, many, c.keep_standing.ensures.room)
