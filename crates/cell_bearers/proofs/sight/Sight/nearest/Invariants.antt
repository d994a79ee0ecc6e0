use Rattle.std.proofs.Common.{◌≡◌, drop}
use Rattle.cell_bearers.specs.Found.{found_near, weak_place}
use Rattle.cell_bearers.specs.Seeing.{stands_at}
use Rattle.cell_bearers.proofs.sight.Sight.nearest.Given as goal

-- none in the namespaces so far
abbrev pub invariant-loop-ns : goal.invariant-loop-ns
invariant-loop-ns l =
    found_near (stands_at l.self.asked) (weak_place l.weakly.objects.now l.weakly.name.now) l.self.cells.now (drop l.ns-index l.self.spaces.now) ≡ found_near (stands_at l.self.asked) (weak_place l.weakly.objects.now l.weakly.name.now) l.self.cells.now l.self.spaces.now
