use Rattle.std.proofs.Common.{◌≡◌, ◌++◌, flat_map, take}
use Rattle.cell_world.specs.DumpLines.{cell_lines}
use Rattle.cell_machine.specs.Machine.{world_of}
use Rattle.cell_view.proofs.all_cells.add_cells.Given as goal

-- the lines of the cells so far
abbrev pub invariant-loop-index : goal.invariant-loop-index
invariant-loop-index l = l.lines.items ≡ l.fn.lines.items ++ flat_map cell_lines (take l.index (world_of l.machine).cells)
