use Rattle.std.proofs.Common.{◌≡◌, map, take}
use Rattle.std.specs.Prelude.{filter}
use Rattle.cell_machine.specs.Machine.{world_of}
use Rattle.cell_space.specs.Joined.{placed_of}
use Rattle.cell_world.specs.World.{is_attached}
use Rattle.cell_commands.proofs.recovering.attached_cells.Given as goal

-- the attached ones of the cells so far
abbrev pub invariant-loop-place : goal.invariant-loop-place
invariant-loop-place l = map (λ c. c.now) l.cells.items ≡ map placed_of (filter (λ c. is_attached c.standing) (take l.place (world_of l.machine).cells))
