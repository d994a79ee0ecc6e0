-- The places of sections, one after another.
use Rattle.std.proofs.Common.{◌≡◌, ℕ, ◌+◌, ◌<◌, true, List, [], ◌∷◌, ◌++◌, length, map, take, get_or, sym, ap, ◌∙◌, arith}
use Rattle.std.proofs.lemmas.List.{get_or-map, length-map, map_more}
use Rattle.std.proofs.lemmas.Slice.Eq.{bytes_eq-Decides}
use Rattle.cell_object.specs.declared.object.Section.{Section as ObjectSection}
use Rattle.cell_world.specs.declared.state.SecPlace.{SecPlace}
use Rattle.cell_audit.specs.declared.written.WrittenPlace.{WrittenPlace}
use Rattle.cell_described.specs.Faults.{has_sections, place_seen}

module _ (sections : List ObjectSection) (places : List WrittenPlace) (h : has_sections sections places ≡ true) where
  numbers_same : map (λ p. p.section) places ≡ map (λ s. s.number) sections
  numbers_same = (bytes_eq-Decides (map (λ p. p.section) places) (map (λ s. s.number) sections)).0 h

  as_many : length sections ≡ length places
  as_many = sym (length-map sections (λ (s : ObjectSection). s.number)) ∙ ap length (sym numbers_same) ∙ length-map places (λ (p : WrittenPlace). p.section)

  module _ (i : ℕ) (s : ObjectSection) (p : WrittenPlace) (below : i < length places) where
    number_here : (get_or sections i s).number ≡ (get_or places i p).section
    number_here =
        sym (get_or-map (λ (x : ObjectSection). x.number) sections i s 0 (let n = as_many in omega (arith, below, n)))
        ∙ ap (λ (ns : List ℕ). get_or ns i 0) (sym numbers_same)
        ∙ get_or-map (λ (x : WrittenPlace). x.section) places i p 0 below

    -- one more place is seen
    pub one_seen : (seen : List SecPlace) → seen ≡ map place_seen (take i places)
        → seen ++ record { section = (get_or sections i s).number; start = (get_or places i p).start } ∷ [] ≡ map place_seen (take (i + 1) places)
    one_seen seen e =
        ap (λ (ps : List SecPlace). ps ++ record { section = (get_or sections i s).number; start = (get_or places i p).start } ∷ []) e
        ∙ ap (λ (n : ℕ). map place_seen (take i places) ++ record { section = n; start = (get_or places i p).start } ∷ []) number_here
        ∙ sym (map_more place_seen places i p below)
