use Rattle.std.specs.Prelude.{◌≡◌}
use Rattle.cell_asm.proofs.Facts.{map, take, section_kept}
use Rattle.cell_asm.proofs.section.sections.Given as goal

-- the sections so far
abbrev pub invariant-loop-part : goal.invariant-loop-part
invariant-loop-part l = l.sections.items ≡ map (section_kept l.parts l.bodies) (take l.part-index l.parts)
