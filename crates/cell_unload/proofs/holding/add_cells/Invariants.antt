use Rattle.std.proofs.Common.{◌≡◌, ◌++◌, take}
use Rattle.std.specs.Prelude.{flat_map}
use Rattle.cell_machine.specs.Machine.{world_of}
use Rattle.cell_unload.specs.Begun.{root_of}
use Rattle.cell_unload.proofs.holding.add_cells.Given as goal

-- the cells so far
abbrev pub invariant-loop-place : goal.invariant-loop-place
invariant-loop-place l = l.into.items ≡ l.fn.into.items ++ flat_map (root_of l.aside) (take l.place (world_of l.machine).cells)
