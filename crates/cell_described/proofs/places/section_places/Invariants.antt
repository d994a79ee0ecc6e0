use Rattle.std.proofs.Common.{◌≡◌, map, take}
use Rattle.cell_described.specs.Faults.{place_seen}
use Rattle.cell_described.proofs.places.section_places.Given as goal

-- the places so far
abbrev pub invariant-loop-index : goal.invariant-loop-index
invariant-loop-index l = l.seen.items ≡ map place_seen (take l.index l.places)
