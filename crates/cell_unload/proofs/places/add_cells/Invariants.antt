use Rattle.std.proofs.Common.{◌≡◌, ◌++◌, take}
use Rattle.std.specs.Prelude.{flat_map}
use Rattle.cell_world.specs.Kept.{placed_in}
use Rattle.cell_world.specs.World.{attached}
use Rattle.cell_unload.proofs.places.add_cells.Given as goal

-- the cells so far
abbrev pub invariant-loop-place : goal.invariant-loop-place
invariant-loop-place l = l.into.items ≡ l.fn.into.items ++ flat_map (λ c. placed_in (attached c)) (take l.place l.cells)
