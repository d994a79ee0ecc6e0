-- Described cells have their objects, and their addresses are numbers of 64 bits.
use Rattle.std.proofs.Common.{◌≡◌, refl, sym, ◌∙◌, ap, ap₂, subst, arith, ℕ, zero, suc, ◌+◌, ◌*◌, ◌^◌, ◌<◌, ◌≤◌, inl, inr, Bool, true, false, true≢false, ◌&&◌, List, [], ◌∷◌, length, map}
use Rattle.std.specs.Prelude.{Option, Some, None, All, find, option_map, unwrap_or, nat_le, nat_lt, ◌==◌}
use Rattle.std.specs.List.{list_all}
use Rattle.std.proofs.lemmas.Bool.Decides.{nat_tests}
use Rattle.cell_num.specs.Limits.{page_size}
use Rattle.cell_num.specs.Lists.{In, each_pair}
use Rattle.cell_num.proofs.Elements.{All-In, In-All, all-In, found-In}
use Rattle.cell_object.specs.declared.object.Home.{Home}
use Rattle.cell_object.specs.declared.object.Home.TheVariants.{Undef, Abs, Inside, Elsewhere}
use Rattle.cell_object.specs.declared.object.Object.{Object}
use Rattle.cell_object.specs.declared.object.Section.{Section as ObjectSection}
use Rattle.cell_object.specs.declared.object.Symbol.{Symbol}
use Rattle.cell_object.specs.Parts.{is_defined, section_of}
use Rattle.cell_object.specs.Sound.{IsSoundObject, is_sound_home, is_sound_section, is_sound_symbol}
use Rattle.cell_world.specs.Coherent.{IsLoadable}
use Rattle.cell_world.specs.Placed.Pages.{IsSpace}
use Rattle.cell_world.specs.declared.state.SecPlace.{SecPlace}
use Rattle.cell_described.specs.Faults.{object_at}
use Rattle.cell_described.specs.Standing.{IsStanding, Stand}
use Rattle.cell_described.specs.declared.cell.DescribedCell.{DescribedCell}
use Rattle.cell_relinked.specs.Fit.{IsFit}

object_in : (xs : List Object) (k : ℕ) → k < length xs → In (object_at xs k) xs
object_in [] k lt = absurd (omega (arith, lt))
object_in (x ∷ xs) zero lt = inl refl
object_in (x ∷ xs) (suc k) lt = inr (object_in xs k (omega (arith, lt)))

-- ---- symbols
section_small : (o : Object) → IsSoundObject o → (n : ℕ) (s : ObjectSection) → section_of o n ≡ Some s → s.size ≤ 16777216
section_small o sound n s found =
    let at = found-In _ o.sections s found in
    let parts = all-In is_sound_section o.sections sound.sections s at.0 in
    grind (arith, nat_tests)

front : (a b : Bool) → (a && b) ≡ true → a ≡ true
front true b h = refl
front false b h = absurd (true≢false (sym h))

value_low : (o : Object) → IsSoundObject o → (s : Symbol) → In s o.symbols → is_defined s.home ≡ true → s.value < 2 ^ 63
value_low o sound s i = go s.home refl
  where
    sound_home : is_sound_home o s s.home ≡ true
    sound_home = front (is_sound_home o s s.home) _ (all-In (is_sound_symbol o) o.symbols sound.symbols s i)

    inside : (n : ℕ) (found : Option ObjectSection) → section_of o n ≡ found → unwrap_or (option_map (λ section. nat_le s.value section.size) found) false ≡ true → s.value < 2 ^ 63
    inside n None e h = absurd (true≢false (sym h))
    inside n (Some section) e h = let small = section_small o sound n section e in grind (arith, nat_tests)

    go : (home : Home) → s.home ≡ home → is_defined home ≡ true → s.value < 2 ^ 63
    go Undef e h = absurd (true≢false (sym h))
    go Abs e h = absurd (true≢false (sym h))
    go (Inside n) e h = inside n (section_of o n) refl (ap (is_sound_home o s) (sym e) ∙ sound_home)
    go Elsewhere e h = absurd (true≢false (sym h))

-- ---- places
all_of : {X : Type 0} (t : ℕ → Bool) (f : X → ℕ) (xs : List X) → list_all t (map f xs) ≡ list_all (λ x. t (f x)) xs
all_of t f [] = refl
all_of t f (x ∷ xs) = ap (λ (b : Bool). t (f x) && b) (all_of t f xs)

pairs_of : {X : Type 0} (t : ℕ → ℕ → Bool) (f : X → ℕ) (xs : List X) → each_pair t (map f xs) ≡ each_pair (λ a b. t (f a) (f b)) xs
pairs_of t f [] = refl
pairs_of t f (x ∷ xs) = ap₂ ◌&&◌ (all_of (t (f x)) f xs) (pairs_of t f xs)

same_numbers : (space : ℕ × ℕ) (sections : List ObjectSection) (places : List SecPlace) → Stand space sections places → map (λ p. p.section) places ≡ map (λ s. s.number) sections
same_numbers space [] [] h = refl
same_numbers space [] (p ∷ places) h = absurd h
same_numbers space (s ∷ sections) [] h = absurd h
same_numbers space (s ∷ sections) (p ∷ places) h = ap₂ (λ n ns. n ∷ ns) h.0.section (same_numbers space sections places h.1)

module _ (base pages : ℕ) (space : IsSpace base pages) where
  below_end : (s : ObjectSection) (p : SecPlace) → IsStanding (base, pages) s p → p.start < 2 ^ 63
  below_end s p h =
      let highest : base ≤ 0x7ff_ffff_f000 = space.highest in
      let most : pages ≤ 4096 = space.most in
      let below : p.start + s.size ≤ base + page_size * pages = h.below in
      omega (arith, highest, most, below)

  place_low : (sections : List ObjectSection) (places : List SecPlace) → Stand (base, pages) sections places → (q : SecPlace) → In q places → q.start < 2 ^ 63
  place_low [] [] h q i = absurd i
  place_low [] (p ∷ places) h q i = absurd h
  place_low (s ∷ sections) [] h q i = absurd h
  place_low (s ∷ sections) (p ∷ places) h q (inl e) = subst (λ (x : SecPlace). x.start < 2 ^ 63) (sym e) (below_end s p h.0)
  place_low (s ∷ sections) (p ∷ places) h q (inr i) = place_low sections places h.1 q i

  module _ (objects : List Object) (all : All IsLoadable objects) (c : DescribedCell) (there : c.object < length objects) (stand : Stand (base, pages) (object_at objects c.object).sections c.places) where
    abbrev object : Object
    object = object_at objects c.object

    loadable : IsLoadable object
    loadable = All-In IsLoadable objects all object (object_in objects c.object there)

    start_low : (section : ℕ) → unwrap_or (option_map (λ (q : SecPlace). q.start) (find (λ (q : SecPlace). q.section == section) c.places)) 0 < 2 ^ 63
    start_low section = go (find (λ (q : SecPlace). q.section == section) c.places) refl
      where
        go : (found : Option SecPlace) → find (λ (q : SecPlace). q.section == section) c.places ≡ found → unwrap_or (option_map (λ (q : SecPlace). q.start) found) 0 < 2 ^ 63
        go None e = omega arith
        go (Some q) e = place_low object.sections c.places stand q (found-In _ c.places q e).0

    ordered : each_pair (λ (a b : SecPlace). nat_lt a.section b.section) c.places ≡ true
    ordered =
        sym (pairs_of nat_lt (λ (p : SecPlace). p.section) c.places)
        ∙ (ap (each_pair nat_lt) (same_numbers (base, pages) object.sections c.places stand)
        ∙ (pairs_of nat_lt (λ (s : ObjectSection). s.number) object.sections ∙ loadable.sound.numbers))

    pub is_fit : IsFit objects c
    is_fit = record {
      there = there;
      loadable = loadable;
      low = record { ordered = ordered; starts = start_low; values = value_low object loadable.sound };
      starts = In-All (λ (p : SecPlace). p.start < 2 ^ 63) c.places (λ q i. place_low object.sections c.places stand q i);
    }

  pub all_fit : (objects : List Object) (cells : List DescribedCell) → All IsLoadable objects → All (λ c. c.object < length objects) cells
      → All (λ c. Stand (base, pages) (object_at objects c.object).sections c.places) cells → All (IsFit objects) cells
  all_fit objects cells all there stand =
      In-All (IsFit objects) cells (λ c i. is_fit objects all c (All-In (λ (d : DescribedCell). d.object < length objects) cells there c i)
      (All-In (λ (d : DescribedCell). Stand (base, pages) (object_at objects d.object).sections d.places) cells stand c i))
