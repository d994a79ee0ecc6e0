use Rattle.std.proofs.Common.{◌≡◌, ◌+◌, ◌*◌, drop, map}
use Rattle.slab.specs.Slab.{get, slab_len}
use Rattle.cell_graph.specs.Listed.{IsWhole}
use Rattle.cell_graph.specs.Places.{link_at}
use Rattle.cell_graph.specs.Several.{AreThere, all_unlinked}
use Rattle.cell_graph.specs.Standing.{standing}
use Rattle.cell_graph.proofs.links.unbind_each.Given as goal

-- those that are left are there, and once they have gone too all have
abbrev pub invariant-loop-row : goal.invariant-loop-row
invariant-loop-row g l = record {
  whole : IsWhole (get l.rows) (get l.sections) l.section_list.items (standing (get l.rows) l.row_list.items);
  left : all_unlinked (map (link_at (get l.rows)) (standing (get l.rows) l.row_list.items)) (drop l.row-index l.gone) ≡ all_unlinked (map (link_at (get l.fn.rows)) l.row_list.items) l.gone;
  there : AreThere (map (link_at (get l.rows)) (standing (get l.rows) l.row_list.items)) (drop l.row-index l.gone);
  steps : l.steps ≡ l.fn.steps + 2 * l.row-index;
  row_count : slab_len l.rows + l.row-index ≡ slab_len l.fn.rows;
  section_count : slab_len l.sections ≡ slab_len l.fn.sections;
  row_capacity : l.rows.capacity ≡ l.fn.rows.capacity;
  section_capacity : l.sections.capacity ≡ l.fn.sections.capacity;
}
