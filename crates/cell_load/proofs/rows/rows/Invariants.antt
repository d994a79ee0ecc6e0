use Rattle.std.proofs.Common.{◌≡◌, ◌++◌, drop}
use Rattle.cell_load.specs.Linking.{rows_by, rows_from}
use Rattle.cell_load.proofs.rows.rows.Given as goal

-- the links so far, and those of the entries that are left
abbrev pub invariant-loop-index : goal.invariant-loop-index
invariant-loop-index l = l.rows.items ++ rows_from l.cell l.index (drop l.index l.cell.object.entries) (drop l.index l.targets) ≡ rows_by l.cell l.targets
