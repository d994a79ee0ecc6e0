use Rattle.std.proofs.Common.{◌≡◌, map, take}
use Rattle.cell_load.proofs.prepared.sections_of.Given as goal

abbrev pub invariant-loop-section : goal.invariant-loop-section
invariant-loop-section l = record {
  so_far : l.sections.items ≡ map (λ s. s.number) (take l.section-index l.section-items);
  all : l.section-items ≡ l.cell.object.sections;
}
