use Rattle.std.proofs.Common.{◌≡◌, false, replicate}
use Rattle.cell_place.proofs.space.Space.new.Given as goal

-- so many pages, all free
abbrev pub invariant-loop : goal.invariant-loop
invariant-loop l = l.taken.items ≡ replicate l.counter false
