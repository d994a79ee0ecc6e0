use Rattle.std.proofs.Common.{◌≡◌, map, take}
use Rattle.std.specs.Prelude.{filter}
use Rattle.cell_machine.specs.Machine.{world_of}
use Rattle.cell_world.specs.Commands.Asked.{is_in_space}
use Rattle.cell_commands.specs.Cloning.{copy_to}
use Rattle.cell_commands.proofs.cloning.copies.Given as goal

-- copies of the cells so far
abbrev pub invariant-loop-place : goal.invariant-loop-place
invariant-loop-place l = l.copies.items ≡ map (copy_to l.to) (filter (is_in_space l.from) (take l.place (world_of l.machine).cells))
