use Rattle.cell_graph.proofs.Listing.{place_named}
use Rattle.cell_graph.proofs.section_list.section_place.Goals as goal

pub returns : goal.returns
returns c = place_named c.args.list.now c.section_index-index.result c.args.key _ c.section_index-index.ensures
