-- Sections where they stand.
--     Stand space sections places     the places are of these sections, in order, which are wholly in the space
use Rattle.std.specs.Prelude.{◌≡◌, ◌≤◌, ◌+◌, ◌*◌, ℕ, List, [], ◌∷◌}
use Rattle.cell_num.specs.Limits.{page_size}
use Rattle.cell_object.specs.declared.object.Section.{Section as ObjectSection}
use Rattle.cell_world.specs.declared.state.SecPlace.{SecPlace}

pub record IsStanding (space : ℕ × ℕ) (s : ObjectSection) (p : SecPlace) : Type 0 where
  pub section : p.section ≡ s.number
  pub above : space.0 ≤ p.start
  pub below : p.start + s.size ≤ space.0 + page_size * space.1

abbrev pub Stand : ℕ × ℕ → List ObjectSection → List SecPlace → Type 0
Stand space [] [] = Unit {0}
Stand space [] (p ∷ places) = ⊥
Stand space (s ∷ sections) [] = ⊥
Stand space (s ∷ sections) (p ∷ places) = IsStanding space s p × Stand space sections places
