use Rattle.std.proofs.Common.{◌≡◌, ◌+◌, map}
use Rattle.cell_num.specs.Lists.{upto}
use Rattle.cell_audit.specs.Told.{byte_told}
use Rattle.cell_relinked.proofs.section_bytes.told_bytes.Given as goal

-- the bytes so far
abbrev pub invariant-loop-k : goal.invariant-loop-k
invariant-loop-k l = l.bytes.items ≡ map (λ k. byte_told l.told (l.start + k)) (upto l.k)
