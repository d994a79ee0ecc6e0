use Rattle.std.proofs.Common.{◌≡◌, map, take}
use Rattle.cell_world.specs.Commands.MapCommand.{map_cell}
use Rattle.cell_machine.specs.Machine.{world_of}
use Rattle.cell_view.proofs.overview.map_cells.Given as goal

-- the cells so far
abbrev pub invariant-loop-index : goal.invariant-loop-index
invariant-loop-index l = l.shown.items ≡ map (map_cell (world_of l.machine)) (take l.index (world_of l.machine).cells)
