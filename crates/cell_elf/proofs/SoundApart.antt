-- No two entries of an object share a byte, but where both add, take or set one field.
use Rattle.std.proofs.Common.{◌≡◌, ℕ, ◌+◌, ◌-◌, ◌<◌, ◌≤◌, refl, sym, ◌∙◌, subst, arith, inl, inr, Bool, true, false, not, ◌||◌, ◌&&◌, List, [], ◌∷◌, Ok}
use Rattle.std.specs.Prelude.{◌==◌, nat_lt, nat_le}
use Rattle.std.proofs.lemmas.Bool.{and_parts}
use Rattle.std.proofs.lemmas.Bool.Decides.{nat_tests}
use Rattle.cell_num.specs.Lists.{each_pair, In}
use Rattle.cell_num.specs.Kinds.{width_of, is_stacking}
use Rattle.cell_object.specs.declared.object.Entry.{Entry}
use Rattle.cell_object.specs.Bytes.{checked, between}
use Rattle.cell_object.specs.Header.{file_header, section_header}
use Rattle.cell_object.specs.Relocations.{is_rela, is_for_loaded, is_relocated_below, entry_count, entry_of, entries_below, is_clash, relocations_rules, section_entries, entries_of}
use Rattle.cell_object.specs.Sound.{may_share}
use Rattle.cell_num.proofs.Ranges.{In-numbers, range-In, pairs-range}
use Rattle.cell_num.proofs.Elements.{none-In}
use Rattle.cell_elf.proofs.SoundSections.{yes_or_no, in_range, range_in}
use Rattle.cell_elf.proofs.Tables.{section_entries_loaded, section_entries_other}
use Rattle.cell_elf.proofs.EntryFacts.{IsTable, IsRow, one_entry, entry_in, entry_kind, table_fit, entry_fit}

share_of : (e f w v : ℕ) (s t : Bool) → (nat_lt e (f + v) && nat_lt f (e + w) && not (e == f && w == v && s && t)) ≡ false
    → (nat_le (f + v) e || nat_le (e + w) f || (f == e) && (v == w) && t && s) ≡ true
share_of e f w v true true h = grind (arith, nat_tests)
share_of e f w v true false h = grind (arith, nat_tests)
share_of e f w v false true h = grind (arith, nat_tests)
share_of e f w v false false h = grind (arith, nat_tests)

or_more : (a b c d : Bool) → (b || c || d) ≡ true → (a || b || c || d) ≡ true
or_more true b c d h = refl
or_more false b c d h = h

-- an entry that clashes with none before it
apart_of : (e f : Entry) → is_clash e f ≡ false → may_share f e ≡ true
apart_of e f h =
    or_more (not (f.section == e.section)) (nat_le (f.offset + width_of f.kind) e.offset) (nat_le (e.offset + width_of e.kind) f.offset)
    ((f.offset == e.offset) && (width_of f.kind == width_of e.kind) && is_stacking f.kind && is_stacking e.kind)
    (share_of e.offset f.offset (width_of e.kind) (width_of f.kind) (is_stacking e.kind) (is_stacking f.kind) h)

one_alone : (file : List ℕ) (n k : ℕ) → each_pair may_share (entry_of file (section_header file n) k) ≡ true
one_alone file n k = go (entry_of file (section_header file n) k) (λ e i. one_entry file (section_header file n) k e i)
  where
    go : (xs : List Entry) → ((e : Entry) → In e xs → xs ≡ e ∷ []) → each_pair may_share xs ≡ true
    go [] f = refl
    go (e ∷ es) f = subst (λ (xs : List Entry). each_pair may_share xs ≡ true) (sym (f e (inl refl))) refl

-- two entries of one table
rows_apart : (file : List ℕ) (n : ℕ) → IsTable file n → checked (relocations_rules file) ≡ Ok tt → (l k : ℕ) (f e : Entry) → l < k → k < entry_count (section_header file n)
    → In f (entry_of file (section_header file n) l) → In e (entry_of file (section_header file n) k) → may_share f e ≡ true
unfolding between
rows_apart file n t related l k f e less below i j =
    let h = section_header file n in
    let row : IsRow file n k e = record { below = below; is = one_entry file h k e j } in
    let fits = entry_fit file n k e t row related in
    let before : In f (entries_below file h k) = range-In (entry_of file h) (k - 0) 0 l f (omega arith) (omega arith) i in
    apart_of e f (none-In (is_clash e) (entries_below file h k) fits.apart f before)

-- the entries of one section
table_apart : (file : List ℕ) (n : ℕ) → 1 ≤ n → n < (file_header file).e_shnum → checked (relocations_rules file) ≡ Ok tt → each_pair may_share (section_entries file n) ≡ true
unfolding between
table_apart file n from there related = elim (yes_or_no (is_rela (section_header file n) && is_for_loaded file (section_header file n))) [
  | inl a ↦
      let h = section_header file n in
      let both = and_parts (is_rela h) (is_for_loaded file h) a in
      let t : IsTable file n = record { from = from; there = there; kind = both.0; loaded = both.1 } in
      rw (section_entries_loaded file n both.0 both.1) (pairs-range may_share (entry_of file h) (entry_count h - 0) 0 (λ k low high. one_alone file n k)
      (λ l k f e low less high i j. rows_apart file n t related l k f e less (within (entry_count h) k high) i j))
  | inr b ↦ rw (section_entries_other file n b) refl
]
  where
    within : (count k : ℕ) → k < 0 + (count - 0) → k < count
    within count k h = omega arith

relocated : (file : List ℕ) (m n target : ℕ) → 1 ≤ m → m < n → is_relocated_below file n target ≡ false → is_rela (section_header file m) ≡ true → (section_header file m).sh_info ≡ target → ⊥
unfolding is_relocated_below between
relocated file m n target from less none rela same =
    let p : ℕ → Bool = λ i. is_rela (section_header file i) && (section_header file i).sh_info == target in
    clash (p m) (hit _ _ target rela same) (none-In p (between 1 n) none m (In-numbers (n - 1) 1 m from (range_in n m from less)))
  where
    hit : (rela : Bool) (info target : ℕ) → rela ≡ true → info ≡ target → (rela && info == target) ≡ true
    hit rela info target r s = grind (arith, nat_tests)

    clash : (b : Bool) → b ≡ true → b ≡ false → ⊥
    clash b t f = cc

-- the entries of two sections
tables_apart : (file : List ℕ) (m n : ℕ) (f e : Entry) → 1 ≤ m → m < n → n < (file_header file).e_shnum → checked (relocations_rules file) ≡ Ok tt
    → In f (section_entries file m) → In e (section_entries file n) → may_share f e ≡ true
tables_apart file m n f e from less there related i j =
    let first = entry_in file m f from (omega arith) i in
    let second = entry_in file n e (omega arith) there j in
    let one = entry_kind file (section_header file m) first.1.0 f first.1.1.is in
    let two = entry_kind file (section_header file n) second.1.0 e second.1.1.is in
    let form = table_fit file n second.0 related in
    other (f.section == e.section) (nat_le (f.offset + width_of f.kind) e.offset) (nat_le (e.offset + width_of e.kind) f.offset)
    ((f.offset == e.offset) && (width_of f.kind == width_of e.kind) && is_stacking f.kind && is_stacking e.kind) (λ same. relocated file m n (section_header file n).sh_info from less form.alone first.0.kind (sym one.1 ∙ same_number f.section e.section same ∙ two.1))
  where
    same_number : (a b : ℕ) → (a == b) ≡ true → a ≡ b
    same_number a b h = grind (arith, nat_tests)

    other : (b p q r : Bool) → (b ≡ true → ⊥) → (not b || p || q || r) ≡ true
    other true p q r h = absurd (h refl)
    other false p q r h = refl

-- no two entries clash
pub entries_apart : (file : List ℕ) → checked (relocations_rules file) ≡ Ok tt → each_pair may_share (entries_of file) ≡ true
unfolding between
entries_apart file related =
    let count = (file_header file).e_shnum in
    pairs-range may_share (section_entries file) (count - 1) 1 (λ n low high. table_apart file n low (in_range count n low high) related)
    (λ m n f e low less high i j. tables_apart file m n f e low less (in_range count n (omega arith) high) related i j)
