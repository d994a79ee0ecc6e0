use Rattle.std.proofs.Common.{◌≡◌, replicate}
use Rattle.cell_relinked.proofs.section_bytes.zeros.Given as goal

-- the bytes so far
abbrev pub invariant-loop : goal.invariant-loop
invariant-loop l = l.bytes.items ≡ replicate l.counter 0
