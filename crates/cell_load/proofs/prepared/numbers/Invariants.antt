use Rattle.std.proofs.Common.{◌≡◌, map, take}
use Rattle.cell_load.proofs.prepared.numbers.Given as goal

-- the numbers so far
abbrev pub invariant-loop-cell : goal.invariant-loop-cell
invariant-loop-cell l = l.ids.items ≡ map (λ c. c.id) (take l.cell-index l.cells)
