-- Sections without a fault stand where their places are.
use Rattle.std.proofs.Common.{◌≡◌, ℕ, ◌-◌, ◌*◌, Bool, true, false, cond, inl, inr, List, [], ◌∷◌, length, map, Some, None, refl, sym, subst, ◌∙◌, arith}
use Rattle.std.specs.Prelude.{All}
use Rattle.std.proofs.lemmas.Slice.Eq.{bytes_eq-Decides}
use Rattle.cell_num.specs.Limits.{page_size}
use Rattle.cell_num.specs.Lists.{In, or_else}
use Rattle.cell_num.proofs.Elements.{In-All, or_else_parts}
use Rattle.cell_object.specs.declared.object.Object.{Object}
use Rattle.cell_object.specs.declared.object.Section.{Section as ObjectSection}
use Rattle.cell_audit.specs.declared.written.WrittenPlace.{WrittenPlace}
use Rattle.cell_described.specs.declared.cell.DescribedCell.{DescribedCell}
use Rattle.cell_described.specs.declared.finding.FoundCell.{FoundCell}
use Rattle.cell_described.specs.Faults.{alias_fault, cell_fault, cells_fault, has_sections, object_at, place_fault, place_seen, taken_after, taken_with}
use Rattle.cell_described.specs.Placing.{described_of}
use Rattle.cell_described.specs.Standing.{IsStanding, Stand}
use Rattle.cell_described.specs.Taken.{TakenState, fits, with_section}
use Rattle.cell_described.proofs.Marks.{inside, length_filled}

some_none : (n : ℕ) → Some n ≡ None → ⊥
some_none n e = cc

nil_cons : (x : ℕ) (xs : List ℕ) → [] ≡ x ∷ xs → ⊥
nil_cons x xs e = cc

conses : (x y : ℕ) (xs ys : List ℕ) → x ∷ xs ≡ y ∷ ys → (x ≡ y) × (xs ≡ ys)
conses x y xs ys e = (cc, cc)

module _ (base pages : ℕ) where
  -- the taken bytes are those of the space
  pub record IsOf (t : TakenState) : Type 0 where
    pub base_is : t.base ≡ base
    pub size : length t.bytes ≡ page_size * pages

  one_more : (t : TakenState) → IsOf t → (s : ObjectSection) (start : ℕ) → fits t s start ≡ true → IsOf (with_section t s start)
  one_more t of s start f =
      let i = inside t s start f in
      let a = i.above in
      let b = i.below in
      record {
        base_is = of.base_is;
        size = length_filled t.bytes (start - t.base) s.size (omega (arith, a, b)) ∙ of.size;
      }

  one_stands : (t : TakenState) → IsOf t → (s : ObjectSection) (p : WrittenPlace) → fits t s p.start ≡ true → p.section ≡ s.number → IsStanding (base, pages) s (place_seen p)
  one_stands t of s p f e =
      let i = inside t s p.start f in
      let a = i.above in
      let b = i.below in
      let at = of.base_is in
      let size = of.size in
      record { section = e; above = omega (arith, a, at); below = omega (arith, b, at, size) }

  sections_stand : (sections : List ObjectSection) (places : List WrittenPlace) (t : TakenState) → IsOf t → map (λ p. p.section) places ≡ map (λ s. s.number) sections
      → place_fault t sections places ≡ None → Stand (base, pages) sections (map place_seen places) × IsOf (taken_after t sections places)
  sections_stand [] [] t of same none = (tt, of)
  sections_stand [] (p ∷ places) t of same none = absurd (nil_cons p.section (map (λ (p : WrittenPlace). p.section) places) (sym same))
  sections_stand (s ∷ sections) [] t of same none = absurd (nil_cons s.number (map (λ (s : ObjectSection). s.number) sections) same)
  sections_stand (s ∷ sections) (p ∷ places) t of same none =
      let both = conses p.section s.number (map (λ (p : WrittenPlace). p.section) places) (map (λ (s : ObjectSection). s.number) sections) same in
      go (fits t s p.start) refl none both (sections_stand sections places (with_section t s p.start))
    where
      go : (b : Bool) → fits t s p.start ≡ b → cond b (place_fault (with_section t s p.start) sections places) (Some p.line) ≡ None
          → (p.section ≡ s.number) × (map (λ p. p.section) places ≡ map (λ s. s.number) sections)
          → (IsOf (with_section t s p.start) → map (λ p. p.section) places ≡ map (λ s. s.number) sections → place_fault (with_section t s p.start) sections places ≡ None
          → Stand (base, pages) sections (map place_seen places) × IsOf (taken_after (with_section t s p.start) sections places))
          → Stand (base, pages) (s ∷ sections) (map place_seen (p ∷ places)) × IsOf (taken_after (with_section t s p.start) sections places)
      go true f e both rest =
          let r = rest (one_more t of s p.start f) both.1 e in
          ((one_stands t of s p f both.0, r.0), r.1)
      go false f e both rest = absurd (some_none p.line e)

  cell_stands : (t : TakenState) → IsOf t → (objects : List Object) (f : FoundCell) → cell_fault t (object_at objects f.object) f.cell ≡ None
      → Stand (base, pages) (object_at objects f.object).sections (described_of f).places × IsOf (taken_with t objects f)
  cell_stands t of objects f none = go (has_sections object.sections places) refl none
    where
      object : Object
      object = object_at objects f.object

      places : List WrittenPlace
      places = f.cell.places.items

      go : (b : Bool) → has_sections (object_at objects f.object).sections f.cell.places.items ≡ b
          → cond b (or_else (place_fault t (object_at objects f.object).sections f.cell.places.items) (alias_fault (object_at objects f.object) f.cell.aliases.items)) (Some f.cell.line) ≡ None
          → Stand (base, pages) (object_at objects f.object).sections (described_of f).places × IsOf (taken_with t objects f)
      go true has e =
          sections_stand (object_at objects f.object).sections f.cell.places.items t of ((bytes_eq-Decides _ _).0 has)
          (or_else_parts (place_fault t (object_at objects f.object).sections f.cell.places.items) (alias_fault (object_at objects f.object) f.cell.aliases.items) e).0
      go false has e = absurd (some_none f.cell.line e)

  each_stands : (objects : List Object) (found : List FoundCell) (t : TakenState) → IsOf t → cells_fault t objects found ≡ None
      → (c : DescribedCell) → In c (map described_of found) → Stand (base, pages) (object_at objects c.object).sections c.places
  each_stands objects [] t of none c i = absurd i
  each_stands objects (f ∷ found) t of none c i =
      let both = or_else_parts (cell_fault t (object_at objects f.object) f.cell) (cells_fault (taken_with t objects f) objects found) none in
      let one = cell_stands t of objects f both.0 in
      go one.0 (λ j. each_stands objects found (taken_with t objects f) one.1 both.1 c j) i
    where
      go : Stand (base, pages) (object_at objects f.object).sections (described_of f).places
          → (In c (map described_of found) → Stand (base, pages) (object_at objects c.object).sections c.places)
          → In c (described_of f ∷ map described_of found) → Stand (base, pages) (object_at objects c.object).sections c.places
      go here later (inl e) = subst (λ (d : DescribedCell). Stand (base, pages) (object_at objects d.object).sections d.places) (sym e) here
      go here later (inr j) = later j

  -- cells without a fault stand where their places are
  pub cells_stand : (objects : List Object) (found : List FoundCell) (t : TakenState) → IsOf t → cells_fault t objects found ≡ None
      → All (λ (c : DescribedCell). Stand (base, pages) (object_at objects c.object).sections c.places) (map described_of found)
  cells_stand objects found t of none =
      In-All (λ (c : DescribedCell). Stand (base, pages) (object_at objects c.object).sections c.places) (map described_of found) (each_stands objects found t of none)
