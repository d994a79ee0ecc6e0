use Rattle.std.proofs.Common.{◌≡◌}
use Rattle.cell_world.specs.Placed.Pages.{filled}
use Rattle.cell_place.proofs.space.fill.Given as goal

-- so many pages are set
abbrev pub invariant-loop-i : goal.invariant-loop-i
invariant-loop-i l = l.taken ≡ filled l.initial.taken l.fn.run.page l.i l.value
