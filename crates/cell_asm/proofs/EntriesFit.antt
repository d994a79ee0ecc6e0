-- What holds of each line in its place.
--     all_stand source lines        each line of a source has a good statement, which may stand there and has room
use Rattle.std.specs.Prelude.{◌≡◌, ◌+◌, ◌-◌, ◌*◌, ◌%◌, ◌^◌, ◌≤◌, ◌==◌, ◌∷◌, ◌++◌, if◌then◌else◌, ◌||◌}
use Rattle.cell_asm.proofs.Facts.{ℕ, Bool, true, false, not, List, Ok, None, refl, zero, suc, cond, [], Some, sym, ap, ◌∙◌, pow-suc, arith, subst, append-nil, inl, inr, length, length-append, nat_tests, length-map, filter-append, sum_by-cons, sum_by-append, In-one, Option, filter, sum_by, flat_map}
use Rattle.cell_asm.proofs.Facts.{nat_lt, width_of, last, or_else, where_true, is_clash, lines_in, placed_lines, line_of, entries_of, entries_in, parts_of, entry_of, entries, marks_in, choices, size_at, taken, is_long, is_twice, may_stand, placed, fault_at, fault_by, is_at, is_in, takes, size_in}
use Rattle.cell_asm.proofs.Facts.{largest, AsmKindSection as Section, Twice, Long, Part, Line, Laid, Text, Code, Narrow, Wide, Statement, StatementZeros as Zeros, StatementAlign as Align, Bytes, Entry, Bss, In, In-flat_map, In-filtered, filter-In, filter-Passes, is_rebound}
use Rattle.std.proofs.Math.Nat.{dvd-mod_iff}
use Rattle.std.proofs.lemmas.Nat.Gcd.{dvd_of_mod-eq-zero, mod-eq-zero_of_dvd}
use Rattle.cell_asm.proofs.GoodBlocks.{IsGoodStatement, IsFrom, line_origin, Apart, behind, line_apart, statement_marks}
use Rattle.cell_asm.proofs.ListLemmas.{same_of, Pairwise, pairwise_one, pairwise_join, flat_most, le_of, le_trans, least}
use Rattle.cell_asm.proofs.ObjectLemmas.{same_part, few}
use Rattle.cell_asm.proofs.PlacingLemmas.{each_line, Goes, grows, pushed, stands_at}
use Rattle.cell_asm.proofs.ReadLines.{read_line}

-- a line that has no fault
pub record IsAllowed (part : Option Part) (offset : ℕ) (twice : Bool) (line : Line) : Type 0 where
  pub stands : may_stand part line ≡ true
  pub new : twice ≡ false
  pub room : is_long part (offset + taken line.statement offset) ≡ false

by_tests : (a b c : Bool) → or_else (where_true (not a) Section) (or_else (where_true b Twice) (where_true c Long)) ≡ None → (a ≡ true) × ((b ≡ false) × (c ≡ false))
by_tests true true c e = absurd cc
by_tests true false true e = absurd cc
by_tests true false false e = (refl, (refl, refl))
by_tests false b c e = absurd cc

pub no_fault : (part : Option Part) (offset : ℕ) (twice : Bool) (line : Line) → fault_by part offset twice line ≡ None → IsAllowed part offset twice line
no_fault part offset twice line e =
    let r : (may_stand part line ≡ true) × ((twice ≡ false) × (is_long part (offset + taken line.statement offset) ≡ false)) =
    by_tests (may_stand part line) twice (is_long part (offset + taken line.statement offset)) e in
    record { stands = r.0; new = r.1.0; room = r.1.1 }

-- the line has no fault behind those before it
pub allowed : (before : List Laid) (line : Line) → fault_at before line ≡ None → IsAllowed (last (choices before)) (size_at (last (choices before)) before) (is_twice before line.label || is_rebound before line.statement) line
allowed before line e = no_fault (last (choices before)) (size_at (last (choices before)) before) (is_twice before line.label || is_rebound before line.statement) line e

pub record IsStanding (l : Laid) : Type 0 where
  pub good : IsGoodStatement l.line.statement
  pub stands : may_stand l.part l.line ≡ true
  pub room : is_long l.part (l.offset + taken l.line.statement l.offset) ≡ false

one_stands : (before : List Laid) (n : ℕ) (text : List ℕ) (line : Line) → line_of text ≡ Ok line → fault_at before line ≡ None → IsStanding (placed before n line)
one_stands before n text line e f =
    let a = allowed before line f in
    record { good = (read_line text line e).good; stands = a.stands; room = a.room }

pub all_stand : (source : List ℕ) (lines : List Laid) → placed_lines source ≡ Ok lines → (l : Laid) → In l lines → IsStanding l
all_stand = each_line IsStanding one_stands

-- The lines of a section stand one behind the other.
--     stacked source lines part

pub at_part : (part : Part) (o : Option Part) → is_at part o ≡ true → o ≡ Some part
at_part part None e = absurd cc
at_part part (Some other) e = ap Some (sym (same_part part other e))

pub not_past : (m n : ℕ) → nat_lt m n ≡ false → n ≤ m
not_past m n e = grind (arith, nat_tests)

abbrev pub end_of : Laid → ℕ
end_of l = l.offset + taken l.line.statement l.offset

-- a line ends within the most that its section has
pub line_room : (part : Part) (l : Laid) → IsStanding l → is_in part l ≡ true → end_of l ≤ largest part
line_room part l s t = not_past (largest part) (end_of l) (subst (λ o. is_long o (end_of l) ≡ false) (at_part part l.part t) s.room)

-- In .text each line stands at a multiple of four.

-- WHAT A STATEMENT TAKES

four_of : (unit k : ℕ) → 4 ≤ unit → unit ≡ 2 ^ k → unit % 4 ≡ 0
four_of unit zero h e = absurd (omega arith)
four_of unit (suc zero) h e = absurd (omega arith)
four_of unit (suc (suc j)) h e = omega (arith, e, pow-suc 2 (suc j), pow-suc 2 j)

-- what is left over is a multiple of four, where the offset and the unit are
remainder_fours : (offset unit : ℕ) → offset % 4 ≡ 0 → unit % 4 ≡ 0 → (offset % unit) % 4 ≡ 0
remainder_fours offset unit h e = mod-eq-zero_of_dvd 4 ((dvd-mod_iff 4 {m = offset} {n = unit} (dvd_of_mod-eq-zero 4 e)).1 (dvd_of_mod-eq-zero 4 h))

gap_by : (b : Bool) (unit r : ℕ) → unit % 4 ≡ 0 → r % 4 ≡ 0 → (if b then 0 else unit - r) % 4 ≡ 0
gap_by true unit r e h = refl
gap_by false unit r e h = omega arith

taken_fours : (s : Statement) (offset : ℕ) → takes Text s ≡ true → IsGoodStatement s → offset % 4 ≡ 0 → taken s offset % 4 ≡ 0
taken_fours (Zeros n) offset t g h = same_of (n % 4) 0 t
taken_fours (Align unit) offset t g h =
    let e : unit % 4 ≡ 0 = four_of unit g.0 (le_of 4 unit t) g.2 in gap_by (offset % unit == 0) unit (offset % unit) e (remainder_fours offset unit h e)
taken_fours (Bytes Code b) offset t g h = g.sound.whole (λ e. absurd cc)
taken_fours (Bytes Narrow b) offset t g h = absurd cc
taken_fours (Bytes Wide b) offset t g h = g.sound.whole (λ e. absurd cc)
taken_fours _ offset t g h = refl

-- a line of .text at a multiple of four takes whole instructions
pub text_fours : (l : Laid) → IsStanding l → is_in Text l ≡ true → l.offset % 4 ≡ 0 → taken l.line.statement l.offset % 4 ≡ 0
text_fours l s t = taken_fours l.line.statement l.offset (subst (λ o. may_stand o l.line ≡ true) (at_part Text l.part t) s.stands) s.good

-- LINES ONE BEHIND THE OTHER

abbrev pub all_taken : List Laid → ℕ
all_taken ls = sum_by (λ l. taken l.line.statement l.offset) ls

abbrev pub EndsBefore : Laid → Laid → Type 0
EndsBefore l m = end_of l ≤ m.offset

-- lines of a section: each ends before the next begins, all within the most that the section has; those of .text begin at multiples of four
pub record AreStacked (part : Part) (ls : List Laid) : Type 0 where
  pub small : all_taken ls ≤ largest part
  pub inside : (l : Laid) → In l ls → end_of l ≤ all_taken ls
  pub apart : Pairwise EndsBefore ls
  pub fours : part ≡ Text → (all_taken ls % 4 ≡ 0) × ((l : Laid) → In l ls → l.offset % 4 ≡ 0)

stacked_push : (part : Part) (ls : List Laid) (l : Laid) → AreStacked part ls → l.offset ≡ all_taken ls → end_of l ≤ largest part → (part ≡ Text → l.offset % 4 ≡ 0 → taken l.line.statement l.offset % 4 ≡ 0) → AreStacked part (ls ++ l ∷ [])
stacked_push part ls l h at room whole =
    let size : all_taken (ls ++ l ∷ []) ≡ end_of l = sum_by-append (λ m. taken m.line.statement m.offset) ls (l ∷ []) ∙ (omega (arith, at)) in
    record {
      small = subst (λ n. n ≤ largest part) (sym size) room;
      inside = pushed (λ m. end_of m ≤ all_taken (ls ++ l ∷ [])) ls l (λ m k. omega (arith, h.inside m k, size, at)) (omega (arith, size));
      apart = pairwise_join EndsBefore ls (l ∷ []) h.apart (pairwise_one EndsBefore l)
          (λ m k n i. subst (λ x. end_of m ≤ x.offset) (sym (In-one n l i)) (omega (arith, h.inside m k, at)));
      fours = λ text.
          let f = h.fours text in
          let z : l.offset % 4 ≡ 0 = ap (λ n. n % 4) at ∙ f.0 in ((omega (arith, size, z, whole text z)), pushed (λ m. m.offset % 4 ≡ 0) ls l f.1 z);
    }

stacked_by : (part : Part) (b : Bool) (ls : List Laid) (l : Laid) → AreStacked part ls → (b ≡ true → AreStacked part (ls ++ l ∷ [])) → AreStacked part (ls ++ cond b (l ∷ []) [])
stacked_by part true ls l h f = f refl
stacked_by part false ls l h f = subst (AreStacked part) (sym (append-nil ls)) h

stacked_goes : (part : Part) → Goes (λ lines. AreStacked part (filter (is_in part) lines))
stacked_goes part before n text line h e f =
    let new : Laid = placed before n line in
    let s : IsStanding new = one_stands before n text line e f in
    subst (AreStacked part) (sym (filter-append (is_in part) before (new ∷ [])))
    (stacked_by part (is_in part new) (filter (is_in part) before) new h
    (λ t. stacked_push part (filter (is_in part) before) new h (stands_at part before new.part t) (line_room part new s t) (λ is. text_fours new s (subst (λ q. is_in q new ≡ true) is t))))

pub stacked : (source : List ℕ) (lines : List Laid) (part : Part) → placed_lines source ≡ Ok lines → AreStacked part (filter (is_in part) lines)
stacked source lines part e =
    grows (λ ls. AreStacked part (filter (is_in part) ls)) (stacked_goes part) (lines_in source) lines
    (record { small = least (largest part); inside = λ l k. absurd k; apart = tt; fours = λ is. (refl, λ l k. absurd k) }) e

pub in_fours : (source : List ℕ) (lines : List Laid) → placed_lines source ≡ Ok lines → (l : Laid) → In l lines → is_in Text l ≡ true → l.offset % 4 ≡ 0
in_fours source lines e l k t = ((stacked source lines Text e).fours refl).1 l (filter-In (is_in Text) lines l k t)

-- The entries of a section: where they come from, that they stand apart, and that they are inside.
--     entry_origin       each entry of a section is one of a piece of a line there
--     entries_apart      no two of them share a byte, unless they add to one field
--     entry_high         each is within the section

-- THE ENTRIES OF A SECTION

abbrev AreGood : List Laid → Type 0
AreGood ls = (l : Laid) → In l ls → IsGoodStatement l.line.statement

lines_apart : (lines : List Laid) (part : Part) (ls : List Laid) → Pairwise EndsBefore ls → AreGood ls → Apart (flat_map (entries_of lines part) ls)
lines_apart lines part [] h g = tt
lines_apart lines part (l ∷ ls) h g =
    pairwise_join (λ e f. is_clash f e ≡ false) (entries_of lines part l) (flat_map (entries_of lines part) ls)
    (line_apart lines part l (g l (inl refl)))
    (lines_apart lines part ls h.1 (λ m i. g m (inr i)))
    (λ e i f j.
    let r : (m : Laid) × In m ls × In f (entries_of lines part m) = In-flat_map (entries_of lines part) ls f j in
    behind e f (end_of l) (line_origin lines part l e (g l (inl refl)) i).high (le_trans _ _ _ (h.0 r.0 r.1) (line_origin lines part r.0 f (g r.0 (inr r.1)) r.2).low))

module _ (source : List ℕ) (lines : List Laid) (read : placed_lines source ≡ Ok lines) (part : Part) where
  good_in : AreGood (filter (is_in part) lines)
  good_in l k = (all_stand source lines read l (In-filtered (is_in part) lines l k)).good

  pub entries_apart : Apart (entries_in lines part)
  entries_apart = lines_apart lines part (filter (is_in part) lines) (stacked source lines part read).apart good_in

  -- the line that an entry comes from
  pub record Origin (e : Entry) : Type 0 where
    pub l : Laid
    pub in_lines : In l lines
    pub in_part : is_in part l ≡ true
    pub comes : IsFrom lines part l e

  pub entry_origin : (e : Entry) → In e (entries_in lines part) → Origin e
  entry_origin e k =
      let r : (l : Laid) × In l (filter (is_in part) lines) × In e (entries_of lines part l) = In-flat_map (entries_of lines part) (filter (is_in part) lines) e k in
      record { l = r.0; in_lines = In-filtered (is_in part) lines r.0 r.1; in_part = filter-Passes (is_in part) lines r.0 r.1; comes = line_origin lines part r.0 e (good_in r.0 r.1) r.2 }

  pub entry_high : (e : Entry) → In e (entries_in lines part) → e.offset + width_of e.kind ≤ size_in part lines
  entry_high e k = let o : Origin e = entry_origin e k in omega (arith, o.comes.high, (stacked source lines part read).inside o.l (filter-In (is_in part) lines o.l o.in_lines o.in_part))

-- How many entries there are.
--     section_small       a section has at most 16777216 bytes
--     few_entries         there are at most 134217728 entries

-- THE SIZE OF A SECTION

pub section_fits : (source : List ℕ) (lines : List Laid) (part : Part) → placed_lines source ≡ Ok lines → size_in part lines ≤ largest part
section_fits source lines part e = (stacked source lines part e).small

pub largest_most : (part : Part) → largest part ≤ 16777216
largest_most Bss = omega arith
largest_most _ = omega arith

pub section_small : (source : List ℕ) (lines : List Laid) (part : Part) → placed_lines source ≡ Ok lines → size_in part lines ≤ 16777216
section_small source lines part e = le_trans _ _ _ (section_fits source lines part e) (largest_most part)

-- THE ENTRIES OF A SECTION

lines_count : (lines : List Laid) (part : Part) (ls : List Laid) → ((l : Laid) → In l ls → IsGoodStatement l.line.statement) → length (flat_map (entries_of lines part) ls) ≤ 2 * all_taken ls
lines_count lines part [] g = least 0
lines_count lines part (l ∷ ls) g =
    subst (λ n. length (flat_map (entries_of lines part) (l ∷ ls)) ≤ 2 * n) (sym (sum_by-cons (λ m. taken m.line.statement m.offset) l ls))
    (omega (arith, length-append (entries_of lines part l) (flat_map (entries_of lines part) ls), length-map (marks_in l.line.statement) (entry_of lines part l), (statement_marks l.line.statement l.offset (g l (inl refl))).few, lines_count lines part ls (λ m i. g m (inr i))))

pub part_count : (source : List ℕ) (lines : List Laid) (part : Part) → placed_lines source ≡ Ok lines → length (entries_in lines part) ≤ 2 * size_in part lines
part_count source lines part e = lines_count lines part (filter (is_in part) lines) (λ l k. (all_stand source lines e l (In-filtered (is_in part) lines l k)).good)

-- ALL ENTRIES

pub few_entries : (source : List ℕ) (lines : List Laid) → placed_lines source ≡ Ok lines → length (entries lines) ≤ 134217728
few_entries source lines e =
    omega (arith, flat_most (entries_in lines) 33554432 (parts_of lines) (λ part k. (omega (arith, (part_count source lines part e), (section_small source lines part e)))), few lines (parts_of lines) refl)
