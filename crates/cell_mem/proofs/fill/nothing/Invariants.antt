use Rattle.std.proofs.Common.{◌≡◌, replicate, None}
use Rattle.cell_mem.proofs.fill.nothing.Given as goal

-- so many places
abbrev pub invariant-loop : goal.invariant-loop
invariant-loop g l = l.items.items ≡ replicate l.counter None
