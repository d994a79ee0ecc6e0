use Rattle.std.proofs.Common.{◌≡◌, ◌++◌, map, drop}
use Rattle.cell_routines.specs.Begins.{begin_as}
use Rattle.cell_routines.specs.Placed.{routines_among}
use Rattle.cell_routines.proofs.Standing.{routines_from}
use Rattle.cell_routines.proofs.routines.routines_at.Given as goal

-- those so far, and those that are left
abbrev pub invariant-loop-place : goal.invariant-loop-place
invariant-loop-place l = l.routines.items ++ routines_from l.cells l.place (drop l.place l.begins) ≡ routines_among l.cells (map begin_as l.begins)
