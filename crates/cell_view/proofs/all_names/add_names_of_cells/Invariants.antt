use Rattle.std.proofs.Common.{◌≡◌, ◌++◌, flat_map, take}
use Rattle.cell_machine.specs.Machine.{world_of}
use Rattle.cell_view.specs.Whole.{names_shown}
use Rattle.cell_view.proofs.all_names.add_names_of_cells.Given as goal

-- the names of the cells so far
abbrev pub invariant-loop-index : goal.invariant-loop-index
invariant-loop-index l = l.lines.items ≡ l.fn.lines.items ++ flat_map (names_shown (world_of l.machine)) (take l.index (world_of l.machine).cells)
