use Rattle.std.proofs.Common.{◌≡◌, map, drop}
use Rattle.cell_machine.specs.Machine.{world_of}
use Rattle.cell_unload.proofs.Naming.{numbers_from}
use Rattle.cell_unload.specs.Sweep.{cells_numbered}
use Rattle.cell_unload.proofs.named.named_cells.Given as goal

-- the numbers so far, and then those of the names that are left, are those of all names
abbrev pub invariant-loop-name : goal.invariant-loop-name
invariant-loop-name l = cells_numbered (world_of l.machine) l.names ≡ numbers_from (world_of l.machine) (map (λ c. c.0) l.cells.items) (drop l.name-index l.names)
