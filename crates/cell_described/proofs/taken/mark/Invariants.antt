use Rattle.std.proofs.Common.{◌≡◌, true}
use Rattle.cell_world.specs.Placed.Pages.{filled}
use Rattle.cell_described.proofs.taken.mark.Given as goal

-- so many bytes are taken
abbrev pub invariant-loop-i : goal.invariant-loop-i
invariant-loop-i l = l.bytes ≡ filled l.initial.bytes l.first l.i true
