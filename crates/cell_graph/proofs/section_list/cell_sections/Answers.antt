use Rattle.cell_graph.specs.Lists.{below_section_place}
use Rattle.cell_graph.proofs.Ranges.{rises_take}
use Rattle.cell_graph.proofs.section_list.cell_sections.Goals as goal

pub section_cell_start-requires : goal.section_cell_start-requires
section_cell_start-requires c = rises_take below_section_place c.section_cell_end.result c.args.list.now c.requires
