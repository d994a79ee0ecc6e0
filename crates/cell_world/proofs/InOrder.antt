-- Elements in the order of their keys: the one of a key, found where the lower ones end.
use Rattle.std.proofs.Common.{◌≡◌, refl, sym, ◌∙◌, ap, arith, ℕ, zero, suc, ◌≤◌, ◌<◌, Bool, true, false, cond, List, [], ◌∷◌, ◌++◌, length, get_or}
use Rattle.std.specs.Prelude.{Option, Some, None, ◌==◌, nat_lt, find, slice_get}
use Rattle.std.specs.List.{list_all}
use Rattle.std.proofs.lemmas.Bool.{and_parts, and_from}
use Rattle.std.proofs.lemmas.Bool.Decides.{nat_tests}
use Rattle.cell_num.specs.Lists.{each_pair}
use Rattle.cell_world.specs.Before.{AreBefore}

-- both parts of a list whose pairs pass
module _ {X : Type 0} (test : X → X → Bool) where
  all_front : (p : X → Bool) (xs ys : List X) → list_all p (xs ++ ys) ≡ true → list_all p xs ≡ true
  all_front p [] ys h = refl
  all_front p (x ∷ xs) ys h =
      let parts = and_parts (p x) (list_all p (xs ++ ys)) h in
      and_from (p x) (list_all p xs) parts.0 (all_front p xs ys parts.1)

  pub pairs_front : (xs ys : List X) → each_pair test (xs ++ ys) ≡ true → each_pair test xs ≡ true
  pairs_front [] ys h = refl
  pairs_front (x ∷ xs) ys h =
      let parts = and_parts (list_all (test x) (xs ++ ys)) (each_pair test (xs ++ ys)) h in
      and_from (list_all (test x) xs) (each_pair test xs) (all_front (test x) xs ys parts.0) (pairs_front xs ys parts.1)

  pub pairs_back : (xs ys : List X) → each_pair test (xs ++ ys) ≡ true → each_pair test ys ≡ true
  pairs_back [] ys h = h
  pairs_back (x ∷ xs) ys h = pairs_back xs ys (and_parts (list_all (test x) (xs ++ ys)) (each_pair test (xs ++ ys)) h).1

at_slice : {X : Type 0} (xs : List X) (i : ℕ) (d : X) → i < length xs → slice_get xs i ≡ Some (get_or xs i d)
at_slice [] i d lt = absurd (omega arith)
at_slice (x ∷ xs) zero d lt = refl
at_slice (x ∷ xs) (suc i) d lt = at_slice xs i d (omega (arith, lt))

past_slice : {X : Type 0} (xs : List X) (i : ℕ) → length xs ≤ i → slice_get xs i ≡ None
past_slice [] i le = refl
past_slice (x ∷ xs) zero le = absurd (omega arith)
past_slice (x ∷ xs) (suc i) le = past_slice xs i (omega (arith, le))

module _ {X : Type 0} (key : X → ℕ) where
  abbrev pub before : X → X → Bool
  before a b = nat_lt (key a) (key b)

  abbrev pub is_of : ℕ → X → Bool
  is_of n x = key x == n

  -- that element, where it is the one of the key
  abbrev pub if_of : ℕ → Option X → Option X
  if_of n None = None
  if_of n (Some x) = cond (is_of n x) (Some x) None

  skipped : (n : ℕ) (x : X) (xs : List X) → is_of n x ≡ false → find (is_of n) (x ∷ xs) ≡ find (is_of n) xs
  skipped n x xs e = ap (λ b. cond b (Some x) (find (is_of n) xs)) e

  -- none of those behind has the key
  none_behind : (n : ℕ) (x : X) (xs : List X) → n ≤ key x → list_all (before x) xs ≡ true → find (is_of n) xs ≡ None
  none_behind n x [] le all = refl
  none_behind n x (y ∷ ys) le all =
      let parts = and_parts (before x y) (list_all (before x) ys) all in
      let first = parts.0 in
      skipped n y ys (grind (arith, nat_tests)) ∙ none_behind n x ys le parts.1

  here : (n : ℕ) (x : X) (xs : List X) → n ≤ key x → list_all (before x) xs ≡ true → find (is_of n) (x ∷ xs) ≡ if_of n (Some x)
  here n x xs le all = ap (λ (rest : Option X). cond (is_of n x) (Some x) rest) (none_behind n x xs le all)

  place_found : (n : ℕ) (xs : List X) → each_pair before xs ≡ true → (i : ℕ)
      → ((k : ℕ) (d : X) → 0 ≤ k → k < i → nat_lt (key (get_or xs k d)) n ≡ true)
      → ((k : ℕ) (d : X) → i ≤ k → k < length xs → nat_lt (key (get_or xs k d)) n ≡ false)
      → find (is_of n) xs ≡ if_of n (slice_get xs i)
  place_found n [] sorted i low high = refl
  place_found n (x ∷ xs) sorted zero low high =
      let parts = and_parts (list_all (before x) xs) (each_pair before xs) sorted in
      let first : nat_lt (key x) n ≡ false = high 0 x (omega arith) (omega arith) in
      here n x xs (grind (arith, nat_tests)) parts.0
  place_found n (x ∷ xs) sorted (suc i) low high =
      let parts = and_parts (list_all (before x) xs) (each_pair before xs) sorted in
      let first : nat_lt (key x) n ≡ true = low 0 x (omega arith) (omega arith) in
      skipped n x xs (grind (arith, nat_tests))
      ∙ place_found n xs parts.1 i (λ k d a b. low (suc k) d (omega arith) (omega (arith, b))) (λ k d a b. high (suc k) d (omega (arith, a)) (omega (arith, b)))

  reach : (x : X) (ys : List X) (j : ℕ) (d : X) → list_all (before x) ys ≡ true → j < length ys → key x ≤ key (get_or ys j d)
  reach x [] j d all lt = absurd (omega arith)
  reach x (y ∷ ys) zero d all lt = let first = (and_parts (before x y) (list_all (before x) ys) all).0 in grind (arith, nat_tests)
  reach x (y ∷ ys) (suc j) d all lt = reach x ys j d (and_parts (before x y) (list_all (before x) ys) all).1 (omega (arith, lt))

  -- in order, those of lower keys come first
  at_most : (xs : List X) → each_pair before xs ≡ true → (i j : ℕ) (d : X) → i ≤ j → j < length xs → key (get_or xs i d) ≤ key (get_or xs j d)
  at_most [] sorted i j d le lt = absurd (omega arith)
  at_most (x ∷ xs) sorted zero zero d le lt = omega arith
  at_most (x ∷ xs) sorted zero (suc j) d le lt = reach x xs j d (and_parts (list_all (before x) xs) (each_pair before xs) sorted).0 (omega (arith, lt))
  at_most (x ∷ xs) sorted (suc i) zero d le lt = absurd (omega (arith, le))
  at_most (x ∷ xs) sorted (suc i) (suc j) d le lt = at_most xs (and_parts (list_all (before x) xs) (each_pair before xs) sorted).1 i j d (omega (arith, le)) (omega (arith, lt))

  pub partitioned : (n : ℕ) (xs : List X) → each_pair before xs ≡ true → (i j : ℕ) (d : X) → i ≤ j → j < length xs
      → nat_lt (key (get_or xs j d)) n ≡ true → nat_lt (key (get_or xs i d)) n ≡ true
  partitioned n xs sorted i j d le lt h = let m = at_most xs sorted i j d le lt in grind (arith, nat_tests)

  module _ (n : ℕ) (xs : List X) (sorted : each_pair before xs ≡ true) (i : ℕ) (are : AreBefore key n xs i) where
    pub none_there : false ≡ nat_lt i (length xs) → find (is_of n) xs ≡ None
    none_there past = place_found n xs sorted i are.0 are.1 ∙ ap (if_of n) (past_slice xs i (grind (arith, nat_tests)))

    module _ (x : X) (within : true ≡ nat_lt i (length xs)) (at : x ≡ get_or xs i x) where
      at_place : find (is_of n) xs ≡ if_of n (Some x)
      at_place = place_found n xs sorted i are.0 are.1 ∙ (ap (if_of n) (at_slice xs i x (grind (arith, nat_tests))) ∙ ap (λ (x : X). if_of n (Some x)) (sym at))

      is_other : (b : Bool) → (key x == n) ≡ b → (key x ≡ n → ⊥) → (key x == n) ≡ false
      is_other true e other = absurd (other (grind (arith, nat_tests)))
      is_other false e other = e

      pub other_there : (key x ≡ n → ⊥) → find (is_of n) xs ≡ None
      other_there other = at_place ∙ ap (λ b. cond b (Some x) None) (is_other (key x == n) refl other)

      is_this : (b : Bool) → (key x == n) ≡ b → key x ≡ n → (key x == n) ≡ true
      is_this true e this = e
      is_this false e this = absurd (differs e)
        where
          differs : (key x == n) ≡ false → ⊥
          differs f = grind (arith, nat_tests)

      pub this_there : key x ≡ n → find (is_of n) xs ≡ Some x
      this_there this = at_place ∙ ap (λ b. cond b (Some x) None) (is_this (key x == n) refl this)
