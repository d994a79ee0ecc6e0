use Rattle.std.proofs.Common.{◌≡◌, map, take}
use Rattle.cell_world.specs.Placed.Layout.{place_in}
use Rattle.cell_layout.proofs.places.places.Given as goal

-- the places of the sections so far
abbrev pub invariant-loop-index : goal.invariant-loop-index
invariant-loop-index l = l.places.items ≡ map (place_in l.starts l.object) (take l.index l.object.sections)
