use Rattle.std.proofs.Common.{◌≡◌, drop}
use Rattle.cell_bearers.specs.Found.{found_from, weak_place}
use Rattle.cell_bearers.specs.Seeing.{stands_at}
use Rattle.cell_bearers.proofs.sight.Sight.weak_in.Given as goal

-- none so far
abbrev pub invariant-loop-place : goal.invariant-loop-place
invariant-loop-place l =
    found_from (stands_at l.self.asked l.ns) (weak_place l.weakly.objects.now l.weakly.name.now) l.place (drop l.place l.self.cells.now) ≡ found_from (stands_at l.self.asked l.ns) (weak_place l.weakly.objects.now l.weakly.name.now) 0 l.self.cells.now
