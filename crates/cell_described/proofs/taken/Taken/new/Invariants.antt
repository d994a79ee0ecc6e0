use Rattle.std.proofs.Common.{◌≡◌, false, replicate}
use Rattle.cell_described.proofs.taken.Taken.new.Given as goal

-- so many bytes, all free
abbrev pub invariant-loop : goal.invariant-loop
invariant-loop l = l.bytes.items ≡ replicate l.counter false
