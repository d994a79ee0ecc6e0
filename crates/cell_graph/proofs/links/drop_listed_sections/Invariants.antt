use Rattle.std.proofs.Common.{◌≡◌, ◌≤◌, ◌+◌, take}
use Rattle.slab.specs.Slab.{get, slab_len}
use Rattle.cell_graph.specs.Dropped.{AreDropped}
use Rattle.cell_graph.specs.Removal.{is_listed}
use Rattle.cell_graph.specs.declared.order.SectionPlace.{SectionPlace}
use Rattle.cell_graph.proofs.links.drop_listed_sections.Given as goal

-- the sections so far are dropped
abbrev pub invariant-loop-index : goal.invariant-loop-index
invariant-loop-index g l = record {
  sections : AreDropped (λ (s : SectionPlace). s.place) (λ s. is_listed l.cells s.key) (get l.fn.sections) (get l.sections) (take l.index l.section_list.items);
  steps : l.steps ≡ l.fn.steps + l.index;
  count : slab_len l.sections ≤ slab_len l.fn.sections;
  capacity : l.sections.capacity ≡ l.fn.sections.capacity;
}
