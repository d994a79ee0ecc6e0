-- Tables whose entries rise: no two are at one place, so each is the first entry of its field.
use Rattle.std.proofs.Common.{◌≡◌, ℕ, zero, suc, ◌+◌, ◌<◌, ◌≤◌, ◌≢◌, true, false, List, [], ◌∷◌, length, get_or, drop, refl, sym, ap, ◌∙◌, arith, inl, inr}
use Rattle.std.specs.Prelude.{nat_le, ◌==◌}
use Rattle.std.specs.List.{list_any}
use Rattle.std.proofs.lemmas.Bool.{leb-true, eqb-true, cases_Bool}
use Rattle.std.proofs.lemmas.Bool.Decides.{eqb_tells, nat_tests}
use Rattle.std.proofs.lemmas.List.{drop_more}
use Rattle.std.proofs.Math.ListN.{drop_of_length-le}
use Rattle.cell_num.proofs.Sublists.{and_left, and_right}
use Rattle.cell_link.proofs.FirstFieldLemmas.{among_new, at_self}
use Rattle.cell_object.specs.declared.object.Entry.{Entry}
use Rattle.cell_world.specs.Linked.Field.{fields_among, is_at}
use Rattle.cell_link.specs.Applied.{spot_of}
use Rattle.cell_plan.specs.Firsts.{is_entry_at}
use Rattle.cell_plan.specs.Rising.{key_of, rises}

-- the test, entry by entry
pub rises_more : (es : List Entry) (i : ℕ) (d : Entry) (least : ℕ) → i < length es → least ≤ key_of (get_or es i d) → rises least (drop i es) ≡ rises (key_of (get_or es i d) + 1) (drop (i + 1) es)
rises_more es i d least below up = ap (rises least) (drop_more es i d below) ∙ rw at_least refl
  where
    at_least : nat_le least (key_of (get_or es i d)) ≡ true
    at_least = grind (arith, nat_tests, up)

pub rises_not : (es : List Entry) (i : ℕ) (d : Entry) (least : ℕ) → i < length es → key_of (get_or es i d) < least → rises least (drop i es) ≡ false
rises_not es i d least below low = ap (rises least) (drop_more es i d below) ∙ rw too_low refl
  where
    too_low : nat_le least (key_of (get_or es i d)) ≡ false
    too_low = grind (arith, nat_tests, low)

pub rises_out : (es : List Entry) (i : ℕ) (least : ℕ) → length es ≤ i → rises least (drop i es) ≡ true
rises_out es i least past = ap (rises least) (drop_of_length-le es {i = i} past)

module _ (least : ℕ) (e : Entry) (rest : List Entry) (up : rises least (e ∷ rest) ≡ true) where
  head_up : least ≤ key_of e
  head_up = leb-true least (key_of e) (and_left (nat_le least (key_of e)) (rises (key_of e + 1) rest) up)

  tail_up : rises (key_of e + 1) rest ≡ true
  tail_up = and_right (nat_le least (key_of e)) (rises (key_of e + 1) rest) up

-- no key is below the least
key_above : (es : List Entry) (least : ℕ) → rises least es ≡ true → (i : ℕ) (d : Entry) → i < length es → least ≤ key_of (get_or es i d)
key_above [] least up i d below = absurd (omega arith)
key_above (e ∷ rest) least up zero d below = head_up least e rest up
key_above (e ∷ rest) least up (suc i) d below =
    let h : least ≤ key_of e = head_up least e rest up in
    let far : key_of e + 1 ≤ key_of (get_or rest i d) = key_above rest (key_of e + 1) (tail_up least e rest up) i d (omega arith) in
    omega (arith, h, far)

keys_rise : (es : List Entry) (least : ℕ) → rises least es ≡ true → (i j : ℕ) (d : Entry) → i < j → j < length es → key_of (get_or es i d) < key_of (get_or es j d)
keys_rise [] least up i j d before below = absurd (omega arith)
keys_rise (e ∷ rest) least up zero zero d before below = absurd (omega arith)
keys_rise (e ∷ rest) least up (suc i) zero d before below = absurd (omega arith)
keys_rise (e ∷ rest) least up zero (suc j) d before below =
    let far : key_of e + 1 ≤ key_of (get_or rest j d) = key_above rest (key_of e + 1) (tail_up least e rest up) j d (omega arith) in
    omega (arith, far)
keys_rise (e ∷ rest) least up (suc i) (suc j) d before below = keys_rise rest (key_of e + 1) (tail_up least e rest up) i j d (omega arith) (omega arith)

-- entries at one place have one key
key_at : (f e : Entry) → is_at f e ≡ true → key_of e ≡ key_of f
key_at f e at =
    let s : e.section ≡ f.section = eqb-true e.section f.section (and_left (e.section == f.section) (e.offset == f.offset) at) in
    let o : e.offset ≡ f.offset = eqb-true e.offset f.offset (and_right (e.section == f.section) (e.offset == f.offset) at) in
    omega (arith, s, o)

pub apart : (f e : Entry) → key_of e ≢ key_of f → is_at f e ≡ false
apart f e other = elim (cases_Bool (is_at f e)) [
  | inl at ↦ absurd (other (key_at f e at))
  | inr not_at ↦ not_at
]

keys_differ : (i k a b : ℕ) → (k < i → b < a) → (i < k → a < b) → k ≢ i → b ≢ a
keys_differ i k a b before behind differ same = grind (arith, before, behind, differ, same)

-- the entry at one place is at the place of another exactly where it is that one
pub at_place : (es : List Entry) → rises 0 es ≡ true → (i k : ℕ) (d : Entry) → i < length es → k < length es → is_entry_at (spot_of (get_or es i d)) (get_or es k d) ≡ (k == i)
at_place es up i k d here there = elim (eqb_tells k i) [
  | inl here_too ↦ ap (λ j. is_at (get_or es i d) (get_or es j d)) here_too.1 ∙ (at_self (get_or es i d) ∙ sym here_too.0)
  | inr differs ↦ apart (get_or es i d) (get_or es k d) (other differs.1) ∙ sym differs.0
]
  where
    other : k ≢ i → key_of (get_or es k d) ≢ key_of (get_or es i d)
    other differ same =
        let before : k < i → key_of (get_or es k d) < key_of (get_or es i d) = λ lt. keys_rise es 0 up k i d lt here in
        let behind : i < k → key_of (get_or es i d) < key_of (get_or es k d) = λ lt. keys_rise es 0 up i k d lt there in
        keys_differ i k (key_of (get_or es i d)) (key_of (get_or es k d)) before behind differ same

-- all entries are below a key
abbrev Below : ℕ → List Entry → Type 0
Below least [] = Unit {0}
Below least (b ∷ bs) = (key_of b < least) × Below least bs

below_more : (bs : List Entry) (least more : ℕ) → least ≤ more → Below least bs → Below more bs
below_more [] least more le below = tt
below_more (b ∷ bs) least more le below = let h : key_of b < least = below.0 in (omega (arith, h), below_more bs least more le below.1)

none_there : (bs : List Entry) (least : ℕ) (e : Entry) → Below least bs → least ≤ key_of e → list_any (is_at e) bs ≡ false
none_there [] least e below up = refl
none_there (b ∷ bs) least e below up =
    let h : key_of b < least = below.0 in
    rw (apart e b (λ same. omega (arith, h, same)), none_there bs least e below.1 up) refl

all_first : (before es : List Entry) (least : ℕ) → Below least before → rises least es ≡ true → fields_among before es ≡ es
all_first before [] least below up = refl
all_first before (e ∷ rest) least below up =
    let h : least ≤ key_of e = head_up least e rest up in
    among_new before e rest (none_there before least e below h)
    ∙ ap (λ (es : List Entry). e ∷ es) (all_first (e ∷ before) rest (key_of e + 1) (omega arith, below_more before least (key_of e + 1) (omega (arith, h)) below) (tail_up least e rest up))

-- each entry is a field of its own
pub own_fields : (es : List Entry) → rises 0 es ≡ true → fields_among [] es ≡ es
own_fields es up = all_first [] es 0 tt up

pub ruleset climbing = (rises_more, rises_not, rises_out)
