use Rattle.std.proofs.Common.{◌≡◌, length, map, replicate, take}
use Rattle.cell_bearers.specs.Rows.{no_row}
use Rattle.cell_bearers.proofs.rows.symbol_rows.Given as goal

-- the lists so far
abbrev pub invariant-loop-index : goal.invariant-loop-index
invariant-loop-index l = l.table.items ≡ map (λ o. replicate (length o.symbols) no_row) (take l.index l.objects)
