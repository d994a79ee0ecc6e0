use Rattle.std.proofs.Common.{◌≡◌}
use Rattle.cell_world.specs.Placed.Pages.{filled}
use Rattle.cell_mem.proofs.fill.fill.Given as goal

-- so many places are set
abbrev pub invariant-loop-i : goal.invariant-loop-i
invariant-loop-i g l = l.items ≡ filled l.initial.items l.from l.i l.value
