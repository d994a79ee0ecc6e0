use Rattle.std.proofs.Common.{◌≡◌, replicate, None}
use Rattle.cell_audit.proofs.told_bytes.Told.of.Given as goal

abbrev pub invariant-loop : goal.invariant-loop
invariant-loop l = l.bytes.items ≡ replicate l.counter None
