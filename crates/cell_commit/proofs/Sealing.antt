-- The seals of the fields in the table of seals.
use Rattle.std.proofs.Common.{◌≡◌, refl, sym, ap, ◌∙◌, ⊎_elim, arith, ℕ, zero, suc, ◌+◌, ◌-◌, ◌*◌, ◌<◌, ◌≤◌, Bool, true, false, ◌||◌, List, [], ◌∷◌, ◌++◌, length, map, get_or, leb, ltb, append_assoc, append-nil}
use Rattle.std.specs.Prelude.{All}
use Rattle.std.specs.List.{list_any}
use Rattle.std.proofs.lemmas.Bool.{and_from, and_left, and_right, cases_lt, le-leb, le-ltb, lt-leb, lt-ltb}
use Rattle.std.proofs.lemmas.List.{ext_get_or, get_or-map, length-map}
use Rattle.std.proofs.lemmas.List.Folds.{list_any-append}
use Rattle.cell_num.specs.Lists.{from_on, upto}
use Rattle.cell_world.specs.Placed.Pages.{filled}
use Rattle.cell_mem.specs.State.{MemoryState}
use Rattle.cell_mem.proofs.Filling.{filled_above, filled_below, filled_inside, length-filled}
use Rattle.cell_mem.proofs.Reading.{mapped_inside}
use Rattle.cell_link.specs.declared.value.FieldValue.{FieldValue}
use Rattle.cell_commit.specs.Commit.{IsLaidOut, IsMapped, field_written, fields_written}
use Rattle.cell_commit.specs.Seals.{IsInSpace, is_in_span, seal_table, span_of, spans_of}

length-from : (a n : ℕ) → length (from_on a n) ≡ n
length-from a zero = refl
length-from a (suc n) = ap suc (length-from (suc a) n)

get_from : (a n k d : ℕ) → k < n → get_or (from_on a n) k d ≡ a + k
get_from a zero k d lt = absurd (omega arith)
get_from a (suc n) zero d lt = omega arith
get_from a (suc n) (suc k) d lt = get_from (suc a) n k d (omega arith) ∙ omega arith

module _ (test : ℕ → Bool) (size : ℕ) where
  length_table : length (map test (upto size)) ≡ size
  length_table = length-map (upto size) test ∙ length-from 0 size

  at_table : (k : ℕ) → k < size → get_or (map test (upto size)) k false ≡ test k
  at_table k lt =
      get_or-map test (upto size) k 0 false (omega (arith, length-from 0 size, lt))
      ∙ ap test (get_from 0 size k 0 lt ∙ omega arith)

or_false : (a b : Bool) → b ≡ false → (a || (b || false)) ≡ a
or_false true b e = refl
or_false false false e = refl
or_false false true e = e

or_true : (a b : Bool) → b ≡ true → (a || (b || false)) ≡ true
or_true true b e = refl
or_true false true e = refl
or_true false false e = e

-- one span more is sealed
module _ (base size : ℕ) (spans : List (ℕ × ℕ)) (addr width : ℕ) (low : base ≤ addr) (high : addr + width ≤ base + size) where
  abbrev before : ℕ → Bool
  before i = list_any (is_in_span (base + i)) spans

  abbrev now : ℕ → Bool
  now i = list_any (is_in_span (base + i)) (spans ++ (addr, width) ∷ [])

  abbrev here : ℕ → Bool
  here i = is_in_span (base + i) (addr, width)

  now_is : (i : ℕ) → now i ≡ (before i || (here i || false))
  now_is i = list_any-append (is_in_span (base + i)) spans ((addr, width) ∷ [])

  abbrev at : ℕ
  at = addr - base

  abbrev table : List Bool
  table = map before (upto size)

  long : length table ≡ size
  long = length_table before size

  fits : at + width ≤ length table
  fits = omega (arith, long, low, high)

  same_at : (k : ℕ) → k < size → now k ≡ get_or (filled table at width true) k false
  same_at k lt =
      ⊎_elim
      (λ (l : k < at).
      now_is k
      ∙ or_false (before k) (here k) (and_left (leb addr (base + k)) (ltb (base + k) (addr + width)) (lt-leb addr (base + k) (omega (arith, l))))
      ∙ sym (at_table before size k lt)
      ∙ sym (filled_below table at width true fits k false l))
      (λ (l : at ≤ k).
      ⊎_elim
      (λ (h : k < at + width).
      now_is k
      ∙ or_true (before k) (here k) (and_from (leb addr (base + k)) (ltb (base + k) (addr + width)) (le-leb addr (base + k) (omega (arith, l, low))) (lt-ltb (base + k) (addr + width) (omega (arith, h, low))))
      ∙ sym (filled_inside table at width true fits k false l h))
      (λ (h : at + width ≤ k).
      now_is k
      ∙ or_false (before k) (here k) (and_right (leb addr (base + k)) (ltb (base + k) (addr + width)) (le-ltb (base + k) (addr + width) (omega (arith, h, low))))
      ∙ sym (at_table before size k lt)
      ∙ sym (filled_above table at width true fits k false h))
      (cases_lt k (at + width)))
      (cases_lt k at)

  pub seal_more : seal_table base size (spans ++ (addr, width) ∷ []) ≡ filled (seal_table base size spans) (addr - base) width true
  seal_more =
      ext_get_or false (map now (upto size)) (filled table at width true)
      (length_table now size ∙ sym long ∙ sym (length-filled table at width true fits))
      (λ (k : ℕ) (lt : k < length (map now (upto size))).
      let inside : k < size = omega (arith, lt, length_table now size) in
      at_table now size k inside ∙ same_at k inside)

-- the fields' bytes are sealed, and those that were
pub written_sealed : (m : MemoryState) (spans : List (ℕ × ℕ)) (fields : List FieldValue) → All (IsInSpace m.base m.pages) fields
    → m.sealed ≡ seal_table m.base (4096 * m.pages) spans
    → (fields_written m fields).sealed ≡ seal_table m.base (4096 * m.pages) (spans ++ spans_of fields)
written_sealed m spans [] inside is = is ∙ ap (seal_table m.base (4096 * m.pages)) (sym (append-nil spans))
written_sealed m spans (f ∷ fields) inside is =
    let this : IsInSpace m.base m.pages f = inside 0 f (omega arith) in
    let later : All (IsInSpace m.base m.pages) fields = λ (k : ℕ) (d : FieldValue) (lt : k < length fields). inside (suc k) d (omega (arith, lt)) in
    let now : (field_written m f).sealed ≡ seal_table m.base (4096 * m.pages) (spans ++ span_of f ∷ []) =
    ap (λ (t : List Bool). filled t (f.addr - m.base) f.width true) is ∙ sym (seal_more m.base (4096 * m.pages) spans f.addr f.width this.0 this.1) in
    written_sealed (field_written m f) (spans ++ span_of f ∷ []) fields later now
    ∙ ap (seal_table m.base (4096 * m.pages)) (append_assoc spans (span_of f ∷ []) (spans_of fields))

-- a field that is mapped is in the space
pub in_space : (m : MemoryState) (f : FieldValue) → IsLaidOut m → IsMapped m f → IsInSpace m.base m.pages f
in_space m f laid is = mapped_inside m f.addr f.width (m.base + 4096 * m.pages) laid is.1

pub all_in_space : (m : MemoryState) (fields : List FieldValue) → IsLaidOut m → All (IsMapped m) fields → All (IsInSpace m.base m.pages) fields
all_in_space m fields laid all = λ (k : ℕ) (d : FieldValue) (lt : k < length fields). in_space m (get_or fields k d) laid (all k d lt)
