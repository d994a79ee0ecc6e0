use Rattle.cell_xfer.proofs.Reading.{IsRead}
use Rattle.cell_xfer.proofs.asking.read.Given as goal

-- the bytes so far are those that can be loaded
abbrev pub invariant-loop-place : goal.invariant-loop-place
invariant-loop-place l = IsRead l.memory.regions l.addr l.place l.into
