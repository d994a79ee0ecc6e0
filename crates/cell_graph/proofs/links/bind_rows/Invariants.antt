use Rattle.std.proofs.Common.{◌≡◌, ◌+◌, ◌*◌, ◌≤◌, take, drop, map, length, Contains}
use Rattle.slab.specs.Slab.{get, slab_len}
use Rattle.cell_world.specs.declared.state.LinkRow.{LinkRow}
use Rattle.cell_graph.specs.Gaps.{AreAbove, IsGap, around}
use Rattle.cell_graph.specs.Listed.{IsWhole}
use Rattle.cell_graph.specs.Places.{link_at}
use Rattle.cell_graph.specs.Several.{all_linked}
use Rattle.cell_graph.proofs.links.bind_rows.Given as goal

-- those from there on are there around a gap for the others, which come before all behind it
abbrev pub invariant-loop-index : goal.invariant-loop-index
invariant-loop-index g l = record {
  whole : IsWhole (get l.rows) (get l.sections) l.section_list.items (around l.gap l.row_list.items);
  seen : map (link_at (get l.rows)) (around l.gap l.row_list.items) ≡ all_linked (map (link_at (get l.fn.rows)) l.fn.row_list.items) (drop l.index l.new);
  gap : IsGap l.gap l.row_list.items;
  size : l.gap.back ≡ l.gap.front + l.index;
  before : (r : LinkRow) → Contains (take l.index l.new) r → AreAbove r.user r.entry (drop l.gap.back l.row_list.items);
  steps : l.steps + l.gap.front + l.index ≡ l.fn.steps + 2 * length l.new + length l.fn.row_list.items;
  row_count : slab_len l.rows + l.index ≡ slab_len l.fn.rows + length l.new;
  section_count : slab_len l.sections ≡ slab_len l.fn.sections;
  row_capacity : l.rows.capacity ≡ l.fn.rows.capacity;
  section_capacity : l.sections.capacity ≡ l.fn.sections.capacity;
  list_room : l.fn.row_list.spare ≤ l.row_list.spare + length l.new;
}
