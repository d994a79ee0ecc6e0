use Rattle.std.proofs.Common.{◌≡◌, drop, map}
use Rattle.cell_machine.specs.Staged.{all_attached}
use Rattle.cell_unload.specs.Unmapped.{CanLeave, IsTabled, lost_starts, without_regions}
use Rattle.cell_unload.proofs.removal.unmap_cells.Given as goal

-- the cells that are left lead to the end from here
abbrev pub invariant-loop-place : goal.invariant-loop-place
invariant-loop-place l = record {
  left : without_regions l.memory (lost_starts (all_attached (drop l.place l.present)) (map (λ c. c.0) l.cells)) ≡ without_regions l.initial.memory (lost_starts (all_attached l.present) (map (λ c. c.0) l.cells));
  there : CanLeave l.memory (lost_starts (all_attached (drop l.place l.present)) (map (λ c. c.0) l.cells));
  tabled : IsTabled l.memory l.space;
}
