use Rattle.std.proofs.Common.{◌≡◌, replicate}
use Rattle.cell_bearers.specs.Rows.{no_row}
use Rattle.cell_bearers.proofs.rows.no_rows.Given as goal

-- the rows so far
abbrev pub invariant-loop : goal.invariant-loop
invariant-loop l = l.rows.items ≡ replicate l.counter no_row
