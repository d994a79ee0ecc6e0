use Rattle.cell_graph.proofs.Listing.{index_found}
use Rattle.cell_graph.proofs.row_list.row_index.Goals as goal

pub returns : goal.returns
returns c = index_found c.args.list.now c.row_cut.result c.args.user c.args.entry c.requires.rise c.row_cut.ensures c.requires.bound
