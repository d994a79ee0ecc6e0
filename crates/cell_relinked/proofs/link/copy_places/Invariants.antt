use Rattle.std.proofs.Common.{◌≡◌, take}
use Rattle.cell_relinked.proofs.link.copy_places.Given as goal

-- those so far
abbrev pub invariant-loop-place : goal.invariant-loop-place
invariant-loop-place l = l.copy.items ≡ take l.place-index l.places
