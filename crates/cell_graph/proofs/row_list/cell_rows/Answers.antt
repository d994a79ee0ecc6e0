use Rattle.cell_graph.specs.Lists.{below_row_place}
use Rattle.cell_graph.proofs.Ranges.{rises_take}
use Rattle.cell_graph.proofs.row_list.cell_rows.Goals as goal

pub row_cell_start-requires : goal.row_cell_start-requires
row_cell_start-requires c = rises_take below_row_place c.row_cell_end.result c.args.list.now c.requires
