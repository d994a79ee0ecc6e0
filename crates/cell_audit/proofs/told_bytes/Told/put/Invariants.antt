use Rattle.std.proofs.Common.{take}
use Rattle.cell_audit.specs.Told.{Puts}
use Rattle.cell_audit.proofs.told_bytes.Told.put.Given as goal

-- the bytes before are told
abbrev pub invariant-loop-i : goal.invariant-loop-i
invariant-loop-i l = Puts l.start (take l.i l.bytes) l.initial.self l.self
