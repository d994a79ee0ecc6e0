use Rattle.std.proofs.Common.{◌≡◌, ◌++◌, length, option_map}
use Rattle.cell_dumped.specs.Readings.{byte_values}
use Rattle.cell_dumped.proofs.content.read_bytes.Given as goal

-- the bytes so far, and those of the digits that are left, are all bytes
abbrev pub invariant-loop-rest : goal.invariant-loop-rest
invariant-loop-rest l = option_map (λ later. l.bytes.items ++ later) (byte_values l.rest) ≡ byte_values l.word

abbrev pub decreases-loop-rest : goal.decreases-loop-rest
decreases-loop-rest l = length l.rest
