use Rattle.std.proofs.Common.{Option, ap, sym, ◌∙◌}
use Rattle.std.specs.Option.{option_map_or}
use Rattle.slab.specs.Slab.{get}
use Rattle.cell_world.specs.declared.state.LinkRow.{LinkRow}
use Rattle.cell_graph.specs.declared.rows.ChainRow.{ChainRow}
use Rattle.cell_graph.specs.Places.{link_at}
use Rattle.cell_graph.proofs.Wholes.{row_stands}
use Rattle.cell_graph.proofs.links.link_named.Goals as goal

pub read-chain-requires : goal.read-chain-requires
read-chain-requires g c =
    row_stands (get c.args.rows.now) c.args.list.now.items c.args.index c.at-at.result c.requires.listed c.requires.inside (c.at-at.ensures.place c.at-at.result)

pub returns : goal.returns
returns g c = λ d.
    let r = c.at-at.result in
    let made : Option ChainRow → LinkRow = λ o. record { user = r.user; entry = r.entry; target = option_map_or (λ x. x.row.target) o r.user } in
    ap made (sym c.read-chain.ensures.row) ∙ ap (link_at (get c.args.rows.now)) (c.at-at.ensures.place d)
