use Rattle.std.proofs.Common.{◌≡◌, drop}
use Rattle.std.specs.Prelude.{find, ◌==◌}
use Rattle.cell_placed.proofs.sections.section_of.Given as goal

-- no section so far has the number
abbrev pub invariant-loop-section : goal.invariant-loop-section
invariant-loop-section l = find (λ s. s.number == l.number) (drop l.section-index l.object.sections) ≡ find (λ s. s.number == l.number) l.object.sections
