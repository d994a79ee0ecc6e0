use Rattle.std.proofs.Common.{◌≡◌, drop, map}
use Rattle.std.specs.Prelude.{All, IsTrue, filter, nat_lt, not}
use Rattle.cell_num.specs.Lists.{each_pair, holds}
use Rattle.cell_space.specs.Spaces.{HasCell}
use Rattle.cell_unload.proofs.removal.drop_cells.Given as goal

-- the cells that are left lead to the end from here
abbrev pub invariant-loop-place : goal.invariant-loop-place
invariant-loop-place l = record {
  left : filter (λ c. not (holds (map (λ d. d.0) (drop l.place l.cells)) c.cell.0)) l.spaces.cells ≡ filter (λ c. not (holds (map (λ d. d.0) l.cells) c.cell.0)) l.initial.spaces.cells;
  namespaces : l.spaces.namespaces ≡ l.initial.spaces.namespaces;
  present : All (λ c. HasCell l.spaces c.0) (drop l.place l.cells);
  rising : IsTrue (each_pair nat_lt (map (λ c. c.0) (drop l.place l.cells)));
}
