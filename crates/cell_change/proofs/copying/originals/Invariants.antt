use Rattle.std.proofs.Common.{take}
use Rattle.cell_change.specs.Copying.{AreOriginals}
use Rattle.cell_change.proofs.copying.originals.Given as goal

-- those so far
abbrev pub invariant-loop-copy : goal.invariant-loop-copy
invariant-loop-copy l = AreOriginals l.machine (take l.copy-index l.copies) l.all.items
