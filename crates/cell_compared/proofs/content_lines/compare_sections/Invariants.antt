use Rattle.std.proofs.Common.{◌≡◌, ℕ, List, drop, map}
use Rattle.std.specs.Prelude.{flat_map}
use Rattle.cell_object.specs.declared.object.Section.{Section}
use Rattle.cell_compared.specs.Left.{left}
use Rattle.cell_compared.specs.Shown.{lines_at}
use Rattle.cell_compared.specs.Walk.{walk}
use Rattle.cell_compared.proofs.content_lines.compare_sections.Given as goal

-- what is left of the dump, against what is left of the lines
abbrev pub invariant-loop-index : goal.invariant-loop-index
invariant-loop-index l =
    (content : Section → List ℕ) → l.contents ≡ map content l.sections
    → walk (left l.cursor) (flat_map (λ s. lines_at l.cell s (content s)) (drop l.index l.sections)) ≡ walk (left l.fn.cursor) (flat_map (λ s. lines_at l.cell s (content s)) l.sections)
