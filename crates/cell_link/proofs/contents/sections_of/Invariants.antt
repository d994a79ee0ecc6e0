use Rattle.std.proofs.Common.{◌≡◌, ℕ, take}
use Rattle.std.specs.Prelude.{option_map}
use Rattle.std.specs.Ordering.{nat_cmp}
use Rattle.std.specs.BTreeMap.{get}
use Rattle.cell_link.specs.Tables.{section_among}
use Rattle.cell_link.proofs.contents.sections_of.Given as goal

abbrev pub invariant-loop-section : goal.invariant-loop-section
invariant-loop-section l =
    (q : ℕ) → option_map (λ s. s.now) (get nat_cmp l.map q) ≡ section_among (take l.section-index l.sections) q
