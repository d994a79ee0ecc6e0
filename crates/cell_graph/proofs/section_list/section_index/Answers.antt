use Rattle.cell_graph.proofs.Listing.{section_found}
use Rattle.cell_graph.proofs.section_list.section_index.Goals as goal

pub returns : goal.returns
returns c = section_found c.args.list.now c.section_cut.result c.args.key c.requires.rise c.section_cut.ensures c.requires.present
