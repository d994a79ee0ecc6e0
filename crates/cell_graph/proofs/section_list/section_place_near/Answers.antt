use Rattle.cell_graph.proofs.Listing.{place_named}
use Rattle.cell_graph.proofs.section_list.section_place_near.Goals as goal

pub returns-clause-named : goal.returns-clause-named
returns-clause-named c = place_named c.args.list.now c.section_index_near-index.result c.args.key _ c.section_index_near-index.ensures
