-- The last HI20 entry that a LO12 entry may go with, by the greatest offset at which there is one.
use Rattle.std.proofs.Common.{◌≡◌, ℕ, ◌<◌, ◌≤◌, ◌&&◌, ◌||◌, Bool, true, false, Option, Some, None, List, [], ◌∷◌, ◌++◌, refl, sym, arith, inl, inr}
use Rattle.std.specs.Prelude.{◌==◌, ◌⊎◌, nat_lt, filter, fold, option_map}
use Rattle.std.specs.List.{list_any}
use Rattle.std.specs.Ordering.{int_eq}
use Rattle.std.proofs.lemmas.Bool.{cases_Bool, eqb-true}
use Rattle.std.proofs.lemmas.Bool.Decides.{nat_tests}
use Rattle.cell_object.specs.declared.object.Entry.{Entry}
use Rattle.cell_world.specs.Torn.{is_high, may_be_high_of, later_of}
use Rattle.cell_link.specs.Applied.{spot_of}
use Rattle.std.specs.BTreeSet.{BTreeSet, IsKeyRangeOf}
use Rattle.std.specs.declared.ops.Bound.{Bound}
use Rattle.cell_plan.specs.Uppers.{Row, is_row, row_at, row_cmp, IsUppers}
use Rattle.cell_plan.proofs.Rows.{IsBetween, between, from_start, to_end, not_below}

and_left : (a b : Bool) → (a && b) ≡ true → a ≡ true
and_left true b h = refl
and_left false b h = absurd cc

and_right : (a b : Bool) → (a && b) ≡ true → b ≡ true
and_right true b h = h
and_right false b h = absurd cc

same_number : (n : ℕ) → (n == n) ≡ true
same_number n = grind (arith, nat_tests)

is_below : (a b : ℕ) → a < b → nat_lt a b ≡ true
is_below a b h = grind (arith, nat_tests)

record IsHighOf (low h : Entry) : Type 0 where
  high : is_high h.kind ≡ true
  section : (h.section == low.section) ≡ true
  symbol : (h.symbol == low.symbol) ≡ true
  addend : int_eq h.addend low.addend ≡ true

by_test : (low h : Entry) → may_be_high_of low h ≡ true → IsHighOf low h × (nat_lt h.offset low.offset ≡ true)
by_test low h t =
    let four = and_left (is_high h.kind && h.section == low.section && nat_lt h.offset low.offset && h.symbol == low.symbol) (int_eq h.addend low.addend) t in
    let three = and_left (is_high h.kind && h.section == low.section && nat_lt h.offset low.offset) (h.symbol == low.symbol) four in
    let two = and_left (is_high h.kind && h.section == low.section) (nat_lt h.offset low.offset) three in (
      record {
        high = and_left (is_high h.kind) (h.section == low.section) two;
        section = and_right (is_high h.kind) (h.section == low.section) two;
        symbol = and_right (is_high h.kind && h.section == low.section && nat_lt h.offset low.offset) (h.symbol == low.symbol) four;
        addend = and_right (is_high h.kind && h.section == low.section && nat_lt h.offset low.offset && h.symbol == low.symbol) (int_eq h.addend low.addend) t;
      },
      and_right (is_high h.kind && h.section == low.section) (nat_lt h.offset low.offset) three,
    )

by_row : (low h : Entry) (offset : ℕ) → is_row (row_at low offset) h ≡ true → IsHighOf low h × ((h.offset == offset) ≡ true)
by_row low h offset t =
    let four = and_left (is_high h.kind && h.section == low.section && h.symbol == low.symbol && int_eq h.addend low.addend) (h.offset == offset) t in
    let three = and_left (is_high h.kind && h.section == low.section && h.symbol == low.symbol) (int_eq h.addend low.addend) four in
    let two = and_left (is_high h.kind && h.section == low.section) (h.symbol == low.symbol) three in (
      record {
        high = and_left (is_high h.kind) (h.section == low.section) two;
        section = and_right (is_high h.kind) (h.section == low.section) two;
        symbol = and_right (is_high h.kind && h.section == low.section) (h.symbol == low.symbol) three;
        addend = and_right (is_high h.kind && h.section == low.section && h.symbol == low.symbol) (int_eq h.addend low.addend) four;
      },
      and_right (is_high h.kind && h.section == low.section && h.symbol == low.symbol && int_eq h.addend low.addend) (h.offset == offset) t,
    )

row_of_high : (low h : Entry) → may_be_high_of low h ≡ true → is_row (row_at low h.offset) h ≡ true
row_of_high low h t =
    let p = (by_test low h t).0 in
    rw (p.high, p.section, p.symbol, p.addend, same_number h.offset) refl

high_of_row : (low h : Entry) (offset : ℕ) → offset < low.offset → is_row (row_at low offset) h ≡ true → may_be_high_of low h ≡ true
high_of_row low h offset before t =
    let p = by_row low h offset t in
    let e = eqb-true h.offset offset p.1 in
    rw (p.0.high, p.0.section, p.0.symbol, p.0.addend, is_below h.offset low.offset (omega arith)) refl

any_here : (a b : Bool) → a ≡ true → (a || b) ≡ true
any_here a b h = rw h refl

any_there : (a b : Bool) → b ≡ true → (a || b) ≡ true
any_there true b h = refl
any_there false b h = h

none_there : (a b : Bool) → (a || b) ≡ false → (a ≡ false) × (b ≡ false)
none_there false b h = (refl, h)
none_there true b h = absurd cc

never : (b : Bool) → b ≡ true → b ≡ false → ⊥
never b t f = absurd cc

-- where no row is before the low entry, none may be its own
pub none_high : (low : Entry) (entries : List Entry) → ((offset : ℕ) → offset < low.offset → list_any (is_row (row_at low offset)) entries ≡ false) → filter (may_be_high_of low) entries ≡ []
none_high low [] none = refl
none_high low (h ∷ entries) none = elim (cases_Bool (may_be_high_of low h)) [
  | inl t ↦ absurd (never (is_row (row_at low h.offset) h) (row_of_high low h t) (none_there (is_row (row_at low h.offset) h) (list_any (is_row (row_at low h.offset)) entries) (none h.offset (before (by_test low h t).1))).0)
  | inr f ↦ rw f (none_high low entries (λ offset b. (none_there (is_row (row_at low offset) h) (list_any (is_row (row_at low offset)) entries) (none offset b)).1))
]
  where
    before : nat_lt h.offset low.offset ≡ true → h.offset < low.offset
    before t = grind (arith, nat_tests)

-- in that section, and at most at that offset
abbrev IsUpTo : ℕ → ℕ → Option Entry → Type 0
IsUpTo section offset None = Unit {0}
IsUpTo section offset (Some h) = (h.section ≡ section) × (h.offset ≤ offset)

abbrev IsThere : ℕ → Option Entry → Type 0
IsThere offset None = ⊥
IsThere offset (Some h) = h.offset ≡ offset

later_upto : (section offset : ℕ) (acc : Option Entry) (h : Entry) → IsUpTo section offset acc → h.section ≡ section → h.offset ≤ offset → IsUpTo section offset (later_of acc h)
later_upto section offset None h before same most = (same, most)
later_upto section offset (Some g) h before same most = elim (cases_Bool (nat_lt g.offset h.offset)) [
  | inl t ↦ rw t (same, most)
  | inr f ↦ rw f before
]

later_stays : (section offset : ℕ) (acc : Option Entry) (h : Entry) → h.offset ≤ offset → IsThere offset acc → IsThere offset (later_of acc h)
later_stays section offset None h most there = absurd there
later_stays section offset (Some g) h most there = rw (stays there) there
  where
    stays : g.offset ≡ offset → nat_lt g.offset h.offset ≡ false
    stays e = grind (arith, nat_tests)

later_comes : (section offset : ℕ) (acc : Option Entry) (h : Entry) → IsUpTo section offset acc → h.offset ≡ offset → IsThere offset (later_of acc h)
later_comes section offset None h before same = same
later_comes section offset (Some g) h before same = elim (cases_Bool (nat_lt g.offset h.offset)) [
  | inl t ↦ rw t same
  | inr f ↦ rw f (stays f)
]
  where
    stays : nat_lt g.offset h.offset ≡ false → g.offset ≡ offset
    stays f = grind (arith, nat_tests)

the_spot : (section offset : ℕ) (acc : Option Entry) → IsUpTo section offset acc → IsThere offset acc → option_map spot_of acc ≡ Some (section, offset)
the_spot section offset None before there = absurd there
the_spot section offset (Some h) before there = both (sym before.0) (sym there)
  where
    both : {a b c d : ℕ} → a ≡ c → b ≡ d → ◌≡◌ {A = Option (ℕ × ℕ)} (Some (c, d)) (Some (a, b))
    both e f = rw (e, f) refl

latest_from : (low : Entry) (offset : ℕ) → offset < low.offset → (entries : List Entry) (acc : Option Entry) → IsUpTo low.section offset acc
    → ((at : ℕ) → at < low.offset → list_any (is_row (row_at low at)) entries ≡ true → at ≤ offset)
    → IsThere offset acc ⊎ (list_any (is_row (row_at low offset)) entries ≡ true)
    → option_map spot_of (fold later_of acc (filter (may_be_high_of low) entries)) ≡ Some (low.section, offset)
latest_from low offset before [] acc upto most (inl there) = the_spot low.section offset acc upto there
latest_from low offset before [] acc upto most (inr there) = absurd cc
latest_from low offset before (h ∷ entries) acc upto most there = elim (cases_Bool (may_be_high_of low h)) [
  | inl t ↦ rw t (
      latest_from low offset before entries (later_of acc h) (later_upto low.section offset acc h upto (same t) (at_most t))
      (λ at b a. most at b (any_there (is_row (row_at low at) h) (list_any (is_row (row_at low at)) entries) a))
      (moved (at_most t) there)
      )
  | inr f ↦ rw f (
      latest_from low offset before entries acc upto
      (λ at b a. most at b (any_there (is_row (row_at low at) h) (list_any (is_row (row_at low at)) entries) a))
      (kept f there)
      )
]
  where
    same : may_be_high_of low h ≡ true → h.section ≡ low.section
    same t = eqb-true h.section low.section (by_test low h t).0.section

    below : nat_lt h.offset low.offset ≡ true → h.offset < low.offset
    below t = grind (arith, nat_tests)

    at_most : may_be_high_of low h ≡ true → h.offset ≤ offset
    at_most t = most h.offset (below (by_test low h t).1) (any_here (is_row (row_at low h.offset) h) (list_any (is_row (row_at low h.offset)) entries) (row_of_high low h t))

    moved : h.offset ≤ offset → IsThere offset acc ⊎ (list_any (is_row (row_at low offset)) (h ∷ entries) ≡ true) → IsThere offset (later_of acc h) ⊎ (list_any (is_row (row_at low offset)) entries ≡ true)
    moved m (inl there) = inl (later_stays low.section offset acc h m there)
    moved m (inr there) = elim (cases_Bool (is_row (row_at low offset) h)) [
      | inl t ↦ inl (later_comes low.section offset acc h upto (eqb-true h.offset offset (by_row low h offset t).1))
      | inr f ↦ inr (rw f at there)
    ]

    kept : may_be_high_of low h ≡ false → IsThere offset acc ⊎ (list_any (is_row (row_at low offset)) (h ∷ entries) ≡ true) → IsThere offset acc ⊎ (list_any (is_row (row_at low offset)) entries ≡ true)
    kept f (inl there) = inl there
    kept f (inr there) = elim (cases_Bool (is_row (row_at low offset) h)) [
      | inl t ↦ absurd (never (may_be_high_of low h) (high_of_row low h offset before t) f)
      | inr g ↦ inr (rw g at there)
    ]

-- the greatest offset before the low entry at which there is a row
pub latest_high : (low : Entry) (entries : List Entry) (offset : ℕ) → offset < low.offset → list_any (is_row (row_at low offset)) entries ≡ true
    → ((at : ℕ) → at < low.offset → list_any (is_row (row_at low at)) entries ≡ true → at ≤ offset)
    → option_map spot_of (fold later_of None (filter (may_be_high_of low) entries)) ≡ Some (low.section, offset)
latest_high low entries offset before there most = latest_from low offset before entries None tt most (inr there)

same_row : (low : Entry) (k : Row) → IsBetween low.section low.symbol low.addend low.offset k → row_at low k.3 ≡ k
same_row low k b = rw (b.section_is, b.symbol_is, b.addend_is) refl

-- the last of the rows between the low entry's section's start and the entry itself
pub latest_in_range : (low : Entry) (entries : List Entry) (rows : BTreeSet Row) (range front : List Row) (k : Row) → IsUppers entries rows
    → IsKeyRangeOf row_cmp (Bound.Included (row_at low 0)) (Bound.Excluded (row_at low low.offset)) rows range → range ≡ front ++ k ∷ []
    → option_map spot_of (fold later_of None (filter (may_be_high_of low) entries)) ≡ Some (low.section, k.3)
latest_in_range low entries rows range front k are in_range last =
    let here = in_range.3 k front last in
    let inside : IsBetween low.section low.symbol low.addend low.offset k = between low.section low.symbol low.addend low.offset k here.0.0 here.0.1 in
    let has : list_any (is_row k) entries ≡ true = rw (← are k) here.1 in
    latest_high low entries k.3 inside.before (rw (same_row low k inside) has)
    (λ at before there. not_below low.section low.symbol low.addend k.3 at (rw (← same_row low k inside) at (in_range.4 k front last (row_at low at) (from_start low.section low.symbol low.addend at, to_end low.section low.symbol low.addend at low.offset before) (rw (are (row_at low at), there) refl))))

pub none_in_range : (low : Entry) (entries : List Entry) (rows : BTreeSet Row) (range : List Row) → IsUppers entries rows
    → IsKeyRangeOf row_cmp (Bound.Included (row_at low 0)) (Bound.Excluded (row_at low low.offset)) rows range → range ≡ []
    → option_map spot_of (fold later_of None (filter (may_be_high_of low) entries)) ≡ None
none_in_range low entries rows range are in_range empty =
    rw (none_high low entries (λ at before. rw (← are (row_at low at)) (in_range.5 empty (row_at low at) (from_start low.section low.symbol low.addend at, to_end low.section low.symbol low.addend at low.offset before)))) refl
