use Rattle.std.proofs.Common.{◌≡◌, map, take}
use Rattle.cell_view.specs.Shows.{section_shown}
use Rattle.cell_view.proofs.overview.map_sections.Given as goal

-- the sections so far
abbrev pub invariant-loop-section : goal.invariant-loop-section
invariant-loop-section l = l.sections.items ≡ map (section_shown l.cell) (take l.section-index l.cell.object.sections)
