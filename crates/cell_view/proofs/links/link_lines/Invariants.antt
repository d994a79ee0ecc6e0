use Rattle.std.proofs.Common.{◌≡◌, filter_map, take}
use Rattle.cell_world.specs.Commands.LinkCommands.{link_line}
use Rattle.cell_machine.specs.Machine.{world_of}
use Rattle.cell_view.proofs.links.link_lines.Given as goal

-- the lines of the links so far
abbrev pub invariant-loop-row : goal.invariant-loop-row
invariant-loop-row l = l.lines.items ≡ filter_map (link_line (world_of l.machine)) (take l.row-index l.rows)
