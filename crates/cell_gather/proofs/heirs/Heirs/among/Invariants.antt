use Rattle.std.proofs.Common.{take}
use Rattle.cell_gather.specs.Renaming.{AreHeirs}
use Rattle.cell_gather.proofs.heirs.Heirs.among.Given as goal

-- those so far
abbrev pub invariant-loop-place : goal.invariant-loop-place
invariant-loop-place l = AreHeirs (take l.place l.names) l.heirs
