-- The sections of an assembled source can be written.
--     sections_fit source lines    each section is as it must be
use Rattle.std.specs.Prelude.{◌≡◌, ◌+◌, ◌*◌, ◌/◌, ◌%◌, ◌^◌, ◌<◌, ◌≤◌, ◌&&◌, ◌∷◌, ◌⊎◌}
use Rattle.cell_asm.proofs.Facts.{ℕ, zero, suc, max, true, false, List, [], map, length, replicate, slice_get, Some, Ok, refl, sym, subst, ◌∙◌, inl, inr, length-append, arith, Bool, filter, flat_map, fold, nat_le, range_with_len, and_parts, cases_lt, length-replicate, bytes_of, Section, Part, Text, Bss}
use Rattle.cell_asm.proofs.Facts.{Statement, StatementZeros as Zeros, StatementAlign as Align, Laid, IsPlain, IsWhole, IsWritableSection, is_in, gap, taken, size_in, parts_of, part_name, is_text, first_alignment, alignment_asked, alignment, padding, bytes_at, contents, fill_of, may_write, section_of}
use Rattle.cell_asm.proofs.Facts.{sections, placed_lines, In-numbers, In, all-In, In-filtered, filter-Passes, In-map}
use Rattle.cell_object.specs.Sections.{is_alignment}
use Rattle.cell_asm.proofs.ListLemmas.{le_of, get_map, flat_length, total_same, sum_is_total}
use Rattle.cell_asm.proofs.GoodBlocks.{IsUnit, IsGoodStatement}
use Rattle.cell_asm.proofs.EntriesFit.{IsStanding, all_stand, text_fours, in_fours, section_small}
use Rattle.cell_asm.proofs.WritableEntries.{part_numbered}

-- THE BYTES OF A STATEMENT

nops_count : (m : ℕ) → length (flat_map (λ word. bytes_of 4 word) (replicate m 0x13)) ≡ 4 * m
nops_count zero = refl
nops_count (suc m) = omega (arith, length-append (bytes_of 4 0x13) (flat_map (λ word. bytes_of 4 word) (replicate m 0x13)), nops_count m)

padding_length : (part : Part) (n : ℕ) → (is_text part ≡ true → n % 4 ≡ 0) → length (padding part n) ≡ n
padding_length Text n h = nops_count (n / 4) ∙ (omega (arith, h refl))
padding_length _ n h = length-replicate n 0

at_length : (part : Part) (offset : ℕ) (s : Statement) → (is_text part ≡ true → taken s offset % 4 ≡ 0) → length (bytes_at part offset s) ≡ taken s offset
at_length part offset (Zeros n) h = length-replicate n 0
at_length part offset (Align unit) h = padding_length part (gap unit offset) h
at_length part offset _ h = refl

-- THE BYTES OF A SECTION

-- what a line of the section takes, in whole instructions where it is .text
abbrev InWords : Part → List Laid → Type 0
InWords part lines = (l : Laid) → In l lines → is_in part l ≡ true → is_text part ≡ true → taken l.line.statement l.offset % 4 ≡ 0

in_words : (source : List ℕ) (lines : List Laid) (part : Part) → placed_lines source ≡ Ok lines → InWords part lines
in_words source lines Text e = λ l k t same. text_fours l (all_stand source lines e l k) t (in_fours source lines e l k t)
in_words source lines _ e = λ l k t same. absurd cc

filled_length : (part : Part) (lines : List Laid) → InWords part lines
    → length (flat_map (λ l. bytes_at part l.offset l.line.statement) (filter (is_in part) lines)) ≡ size_in part lines
filled_length part lines words =
    flat_length (λ l. bytes_at part l.offset l.line.statement) (filter (is_in part) lines)
    ∙ total_same (λ l. length (bytes_at part l.offset l.line.statement)) (λ l. taken l.line.statement l.offset) (filter (is_in part) lines)
    (λ l k. at_length part l.offset l.line.statement (words l (In-filtered (is_in part) lines l k) (filter-Passes (is_in part) lines l k)))
    ∙ sym (sum_is_total (λ l. taken l.line.statement l.offset) (filter (is_in part) lines))

whole : (part : Part) (lines : List Laid) → InWords part lines → IsWhole (fill_of part) (contents part lines) (size_in part lines)
whole Bss lines words = refl
whole part lines words = filled_length part lines words

-- ALIGNMENTS

first_unit : (part : Part) → IsUnit (first_alignment part)
first_unit Text = (2, (omega arith), refl)
first_unit _ = (3, (omega arith), refl)

asked_unit : (s : Statement) → IsGoodStatement s → IsUnit (alignment_asked s)
asked_unit (Align unit) g = g
asked_unit _ g = (0, (omega arith), refl)

larger_unit : (a b : ℕ) → IsUnit a → IsUnit b → (a < b) ⊎ (b ≤ a) → IsUnit (max a b)
larger_unit a b g h (inl l) = subst IsUnit (omega (arith, l)) h
larger_unit a b g h (inr l) = subst IsUnit (omega (arith, l)) g

fold_unit : (a : ℕ) (units : List ℕ) → IsUnit a → ((n : ℕ) → In n units → IsUnit n) → IsUnit (fold max a units)
fold_unit a [] g h = g
fold_unit a (n ∷ units) g h = fold_unit (max a n) units (larger_unit a n g (h n (inl refl)) (cases_lt a n)) (λ m k. h m (inr k))

asked_units : (part : Part) (lines : List Laid) → ((l : Laid) → In l lines → IsStanding l) → (n : ℕ) → In n (map (λ l. alignment_asked l.line.statement) (filter (is_in part) lines)) → IsUnit n
asked_units part lines stand n k =
    let r : (l : Laid) × In l (filter (is_in part) lines) × (n ≡ alignment_asked l.line.statement) = In-map (λ l. alignment_asked l.line.statement) (filter (is_in part) lines) n k in
    subst IsUnit (sym r.2) (asked_unit r.0.line.statement (stand r.0 (In-filtered (is_in part) lines r.0 r.1)).good)

alignment_unit : (part : Part) (lines : List Laid) → ((l : Laid) → In l lines → IsStanding l) → IsUnit (alignment part lines)
alignment_unit part lines stand = fold_unit (first_alignment part) (map (λ l. alignment_asked l.line.statement) (filter (is_in part) lines)) (first_unit part) (asked_units part lines stand)

record IsAligned (n : ℕ) : Type 0 where
  good : is_alignment n ≡ true
  some : 1 ≤ n
  most : n ≤ 4096

abbrev is_aligned : ℕ → Bool
is_aligned n = is_alignment n && (nat_le 1 n && nat_le n 4096)

power : (k : ℕ) → k ≤ 12 → IsAligned (2 ^ k)
power k h =
    let t : is_aligned (2 ^ k) ≡ true = all-In (λ j. is_aligned (2 ^ j)) (range_with_len 0 13) refl k (In-numbers 13 0 k (omega arith) (omega (arith, h))) in
    let p = and_parts (is_alignment (2 ^ k)) (nat_le 1 (2 ^ k) && nat_le (2 ^ k) 4096) t in
    let q = and_parts (nat_le 1 (2 ^ k)) (nat_le (2 ^ k) 4096) p.1 in
    record { good = p.0; some = le_of 1 (2 ^ k) q.0; most = le_of (2 ^ k) 4096 q.1 }

unit_aligned : (n : ℕ) → IsUnit n → IsAligned n
unit_aligned n g = subst IsAligned (sym g.2) (power g.0 g.1)

-- THE SECTIONS

plain_name : (part : Part) → IsPlain (part_name part)
plain_name Text = refl
plain_name _ = refl

not_both : (part : Part) → (may_write part && is_text part) ≡ false
not_both Text = refl
not_both _ = refl

section_fits : (source : List ℕ) (lines : List Laid) (k : ℕ) (part : Part) → placed_lines source ≡ Ok lines → slice_get (parts_of lines) k ≡ Some part → IsWritableSection (k + 1) (section_of lines part)
section_fits source lines k part e h =
    let aligned : IsAligned (alignment part lines) = unit_aligned (alignment part lines) (alignment_unit part lines (all_stand source lines e)) in
    record {
      numbered = part_numbered lines k part h;
      name = plain_name part;
      apart = not_both part;
      aligned = aligned.good;
      some = aligned.some;
      most = aligned.most;
      small = section_small source lines part e;
      whole = whole part lines (in_words source lines part e);
    }

pub sections_fit : (source : List ℕ) (lines : List Laid) → placed_lines source ≡ Ok lines → (k : ℕ) (s : Section) → slice_get (sections lines) k ≡ Some s → IsWritableSection (k + 1) s
sections_fit source lines e k s h =
    let r : (part : Part) × (slice_get (parts_of lines) k ≡ Some part) × (s ≡ section_of lines part) = get_map (section_of lines) (parts_of lines) k s h in
    subst (IsWritableSection (k + 1)) (sym r.2) (section_fits source lines k r.0 e r.1)

-- its bytes are as many as it says, and not too many
pub section_whole : (source : List ℕ) (lines : List Laid) → placed_lines source ≡ Ok lines → (s : Section) → In s (sections lines) → (s.size ≤ 16777216) × IsWhole s.fill s.bytes s.size
section_whole source lines e s k =
    let r : (part : Part) × In part (parts_of lines) × (s ≡ section_of lines part) = In-map (section_of lines) (parts_of lines) s k in
    subst (λ t. (t.size ≤ 16777216) × IsWhole t.fill t.bytes t.size) (sym r.2) (section_small source lines r.0 e, whole r.0 lines (in_words source lines r.0 e))
