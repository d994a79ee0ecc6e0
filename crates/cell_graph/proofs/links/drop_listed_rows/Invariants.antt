use Rattle.std.proofs.Common.{◌≡◌, ◌≤◌, ◌+◌, ◌*◌, take}
use Rattle.slab.specs.Slab.{get, slab_len}
use Rattle.cell_graph.specs.Chains.{AreChained, SameKeys}
use Rattle.cell_graph.specs.Dropped.{AreDropped, links_at}
use Rattle.cell_graph.specs.Removal.{is_listed}
use Rattle.cell_graph.specs.declared.order.RowPlace.{RowPlace}
use Rattle.cell_graph.proofs.links.drop_listed_rows.Given as goal

-- the links so far are dropped
abbrev pub invariant-loop-index : goal.invariant-loop-index
invariant-loop-index g l = record {
  chained : AreChained (get l.rows) (get l.sections);
  links : AreDropped (λ (r : RowPlace). r.place) (λ r. is_listed l.cells r.user) (links_at (get l.fn.rows)) (links_at (get l.rows)) (take l.index l.row_list.items);
  steps : l.steps ≤ l.fn.steps + 2 * l.index;
  keys : SameKeys (get l.fn.sections) (get l.sections);
  row_count : slab_len l.rows ≤ slab_len l.fn.rows;
  section_count : slab_len l.sections ≡ slab_len l.fn.sections;
  row_capacity : l.rows.capacity ≡ l.fn.rows.capacity;
  section_capacity : l.sections.capacity ≡ l.fn.sections.capacity;
}
