use Rattle.std.proofs.Common.{take}
use Rattle.cell_depot.specs.Shelves.{AreTables}
use Rattle.cell_depot.proofs.depot.Depot.of_files.Given as goal

abbrev pub invariant-loop-place : goal.invariant-loop-place
invariant-loop-place l = AreTables l.file-items (take l.place l.file-items) l.shelves l.names
