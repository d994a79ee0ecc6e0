use Rattle.std.proofs.Common.{◌≡◌, drop}
use Rattle.cell_described.specs.Faults.{has_sections}
use Rattle.cell_described.proofs.places.has_sections.Given as goal

-- those before have their sections
abbrev pub invariant-loop-index : goal.invariant-loop-index
invariant-loop-index l = has_sections (drop l.index l.sections) (drop l.index l.places) ≡ has_sections l.sections l.places
