use Rattle.std.proofs.Common.{◌≡◌, drop}
use Rattle.cell_described.specs.Faults.{place_fault, taken_after}
use Rattle.cell_described.proofs.places.place_fault.Given as goal

-- those before stand, and are taken
abbrev pub invariant-loop-index : goal.invariant-loop-index
invariant-loop-index l = record {
  fault : place_fault l.taken (drop l.index l.sections) (drop l.index l.places) ≡ place_fault l.fn.taken l.sections l.places;
  after : taken_after l.taken (drop l.index l.sections) (drop l.index l.places) ≡ taken_after l.fn.taken l.sections l.places;
}
