-- Orders and tests; and lists: what stands at a place, sums over the elements, and elements that a test tells apart.
--     get_split, get_map      an element at a place
--     total f xs              the sum of f over the elements
--     Pairwise R xs           each element stands so to each behind it
--     AreApart t xs           no element passes the test of one before it
--     adds t xs x             the element behind the others, unless one of them passes its test
use Rattle.std.specs.Prelude.{◌≡◌, ◌⊎◌, ◌||◌, ◌∷◌, ◌++◌, ◌+◌, ◌*◌, ◌≤◌, ◌<◌, if◌then◌else◌, ◌==◌}
use Rattle.cell_asm.proofs.Facts.{Result, Ok, refl, sym, subst, inl, inr, ℕ, zero, suc, Bool, true, false, cond, List, [], ap, ◌∙◌, map, Some, None, slice_get, not, length, take, drop, zero-add, arith, or_left, or_right, nat_tests, length-take, length-drop, length-flat_map, list_any-append, sum_by-cons}
use Rattle.cell_asm.proofs.Facts.{prefix_len-drop_yes, prefix_len-drop_no, prefix_len-drop_all, suffix_len-take_yes, suffix_len-take_no, suffix_len-le-length, prefix_len-le-length, list_any, position_or_len, slice_get-map, option_map, filter, flat_map, fold, sum_by, IfSome, nat_lt, nat_le, position}
use Rattle.cell_asm.proofs.Facts.{Option, is_some, or_else, where_true, In, In-append, get-In, none-In, In-one, has_key, number_from, is_key, Key}

-- ORDERS AND TESTS

pub itself : (n : ℕ) → n ≤ n
itself n = omega arith

pub least : (n : ℕ) → 0 ≤ n
least n = omega arith

pub le_trans : (a b c : ℕ) → a ≤ b → b ≤ c → a ≤ c
le_trans a b c h k = omega arith

pub le_of : (m n : ℕ) → nat_le m n ≡ true → m ≤ n
le_of m n e = grind (arith, nat_tests)

pub not_less : (m n : ℕ) → n ≤ m → nat_lt m n ≡ false
not_less m n h = grind (arith, nat_tests)

pub same_test : (m n : ℕ) → m ≡ n → (m == n) ≡ true
same_test m n e = grind (arith, nat_tests)

pub same_of : (m n : ℕ) → (m == n) ≡ true → m ≡ n
same_of m n e = grind (arith, nat_tests)

-- the value that there is
pub ok_once : {A E : Type 0} (a b : A) (r : Result A E) → r ≡ Ok a → r ≡ Ok b → a ≡ b
ok_once a b r e f = cc

-- WHAT STANDS AT A PLACE

module _ {X : Type 0} where
  -- an element of the first list, or one of the second
  abbrev pub IsSplit : List X → List X → ℕ → X → Type 0
  IsSplit xs ys k x = (slice_get xs k ≡ Some x) ⊎ ((j : ℕ) × (k ≡ length xs + j) × (slice_get ys j ≡ Some x))

  split_next : (y : X) (xs ys : List X) (k : ℕ) (x : X) → IsSplit xs ys k x → IsSplit (y ∷ xs) ys (suc k) x
  split_next y xs ys k x (inl e) = inl e
  split_next y xs ys k x (inr r) = inr (r.0, (omega (arith, r.1)), r.2)

  pub get_split : (xs ys : List X) (k : ℕ) (x : X) → slice_get (xs ++ ys) k ≡ Some x → IsSplit xs ys k x
  get_split [] ys k x e = inr (k, (omega arith), e)
  get_split (y ∷ xs) ys zero x e = inl e
  get_split (y ∷ xs) ys (suc k) x e = split_next y xs ys k x (get_split xs ys k x e)

  pub take_le : (n : ℕ) (xs : List X) → length (take n xs) ≤ length xs
  take_le n xs = omega (arith, length-take n xs)

  pub drop_le : (n : ℕ) (xs : List X) → length (drop n xs) ≤ length xs
  drop_le n xs = omega (arith, length-drop n xs)

module _ {X Y : Type 0} where
  pub get_map : (f : X → Y) (xs : List X) (k : ℕ) (y : Y) → slice_get (map f xs) k ≡ Some y → (x : X) × (slice_get xs k ≡ Some x) × (y ≡ f x)
  get_map f [] k y e = absurd cc
  get_map f (x ∷ xs) zero y e = (x, refl, cc)
  get_map f (x ∷ xs) (suc k) y e = get_map f xs k y e

  pub get_mapped : (f : X → Y) (xs : List X) (k : ℕ) (x : X) → slice_get xs k ≡ Some x → slice_get (map f xs) k ≡ Some (f x)
  get_mapped f xs k x e = slice_get-map f xs k ∙ ap (option_map f) e

-- SUMS

-- the sum of f over the elements
abbrev pub total : {X : Type 0} → (X → ℕ) → List X → ℕ
total f [] = 0
total f (x ∷ xs) = f x + total f xs

module _ {X : Type 0} where
  pub total-append : (f : X → ℕ) (xs ys : List X) → total f (xs ++ ys) ≡ total f xs + total f ys
  total-append f [] ys = sym (zero-add (total f ys))
  total-append f (x ∷ xs) ys = omega (arith, total-append f xs ys)

  pub total_le : (f g : X → ℕ) (xs : List X) → ((x : X) → In x xs → f x ≤ g x) → total f xs ≤ total g xs
  total_le f g [] h = omega arith
  total_le f g (x ∷ xs) h = omega (arith, h x (inl refl), total_le f g xs (λ y k. h y (inr k)))

  pub total_same : (f g : X → ℕ) (xs : List X) → ((x : X) → In x xs → f x ≡ g x) → total f xs ≡ total g xs
  total_same f g [] h = refl
  total_same f g (x ∷ xs) h = ap (λ n. n + total f xs) (h x (inl refl)) ∙ ap (λ n. g x + n) (total_same f g xs (λ y k. h y (inr k)))

  pub total_times : (f : X → ℕ) (c : ℕ) (xs : List X) → ((x : X) → In x xs → f x ≤ c) → total f xs ≤ c * length xs
  total_times f c [] h = omega arith
  total_times f c (x ∷ xs) h = omega (arith, h x (inl refl), total_times f c xs (λ y k. h y (inr k)))

  pub sum_is_total : (f : X → ℕ) (xs : List X) → sum_by f xs ≡ total f xs
  sum_is_total f [] = refl
  sum_is_total f (x ∷ xs) = sum_by-cons f x xs ∙ ap (λ n. f x + n) (sum_is_total f xs)

module _ {X : Type 0} (f : X → ℕ) (p : X → Bool) where
  total_by : (b : Bool) (x : X) (ys ns : List X) (n : ℕ) → total f ys + total f ns ≡ n → total f (cond b (x ∷ ys) ys) + total f (cond (not b) (x ∷ ns) ns) ≡ f x + n
  total_by true x ys ns n e = omega (arith, e)
  total_by false x ys ns n e = omega (arith, e)

  -- those that pass and those that don't
  pub total_split : (xs : List X) → total f (filter p xs) + total f (filter (λ x. not (p x)) xs) ≡ total f xs
  total_split [] = refl
  total_split (x ∷ xs) = total_by (p x) x (filter p xs) (filter (λ y. not (p y)) xs) (total f xs) (total_split xs)

module _ {X Y : Type 0} where
  pub flat_length : (g : X → List Y) (xs : List X) → length (flat_map g xs) ≡ total (λ x. length (g x)) xs
  flat_length g xs = length-flat_map g xs ∙ sum_is_total (λ x. length (g x)) xs

  pub flat_most : (g : X → List Y) (c : ℕ) (xs : List X) → ((x : X) → In x xs → length (g x) ≤ c) → length (flat_map g xs) ≤ c * length xs
  flat_most g c xs h = subst (λ n. n ≤ c * length xs) (sym (flat_length g xs)) (total_times (λ x. length (g x)) c xs h)

  pub total-map : (f : Y → ℕ) (g : X → Y) (xs : List X) → total f (map g xs) ≡ total (λ x. f (g x)) xs
  total-map f g [] = refl
  total-map f g (x ∷ xs) = ap (λ n. f (g x) + n) (total-map f g xs)

-- PAIRS OF ELEMENTS

module _ {X : Type 0} (R : X → X → Type 0) where
  -- each element stands so to each behind it
  abbrev pub Pairwise : List X → Type 0
  Pairwise [] = Unit {0}
  Pairwise (x ∷ xs) = ((y : X) → In y xs → R x y) × Pairwise xs

  pub pairwise_one : (x : X) → Pairwise (x ∷ [])
  pairwise_one x = ((λ y k. absurd k), tt)

  pub pairwise_join : (xs ys : List X) → Pairwise xs → Pairwise ys → ((x : X) → In x xs → (y : X) → In y ys → R x y) → Pairwise (xs ++ ys)
  pairwise_join [] ys h k c = k
  pairwise_join (x ∷ xs) ys h k c = ((λ y i. go y (In-append xs ys y i)), pairwise_join xs ys h.1 k (λ z j. c z (inr j)))
    where
      go : (y : X) → In y xs ⊎ In y ys → R x y
      go y (inl i) = h.0 y i
      go y (inr i) = c x (inl refl) y i

-- ELEMENTS THAT A TEST TELLS APART

module _ {X : Type 0} (t : X → X → Bool) where
  -- no element passes the test of one before it
  abbrev pub AreApart : List X → Type 0
  AreApart xs = Pairwise (λ x y. t y x ≡ false) xs

  apart_push : (xs : List X) (x : X) → AreApart xs → list_any (t x) xs ≡ false → AreApart (xs ++ x ∷ [])
  apart_push xs x h e =
      pairwise_join (λ y z. t z y ≡ false) xs (x ∷ []) h (pairwise_one (λ y z. t z y ≡ false) x)
      (λ y k z i. subst (λ v. t v y ≡ false) (sym (In-one z x i)) (none-In (t x) xs e y k))

  -- the element behind the others, unless one of them passes its test
  abbrev pub adds : List X → X → List X
  adds xs x = if list_any (t x) xs then xs else xs ++ x ∷ []

  adds_apart : (xs : List X) (x : X) (b : Bool) → list_any (t x) xs ≡ b → AreApart xs → AreApart (if b then xs else xs ++ x ∷ [])
  adds_apart xs x true e h = h
  adds_apart xs x false e h = apart_push xs x h e

  pub fold_apart : (xs more : List X) → AreApart xs → AreApart (fold adds xs more)
  fold_apart xs [] h = h
  fold_apart xs (x ∷ more) h = fold_apart (adds xs x) more (adds_apart xs x (list_any (t x) xs) refl h)

  adds_In : (xs : List X) (x y : X) (b : Bool) → In y (if b then xs else xs ++ x ∷ []) → In y xs ⊎ In y (x ∷ [])
  adds_In xs x y true k = inl k
  adds_In xs x y false k = In-append xs (x ∷ []) y k

  first_In : (xs more : List X) (x y : X) → In y xs ⊎ In y (x ∷ []) → In y xs ⊎ In y (x ∷ more)
  first_In xs more x y (inl i) = inl i
  first_In xs more x y (inr (inl e)) = inr (inl e)
  first_In xs more x y (inr (inr i)) = absurd i

  rest_In : (xs more : List X) (x y : X) → In y (adds xs x) ⊎ In y more → In y xs ⊎ In y (x ∷ more)
  rest_In xs more x y (inl i) = first_In xs more x y (adds_In xs x y (list_any (t x) xs) i)
  rest_In xs more x y (inr i) = inr (inr i)

  pub fold_In : (xs more : List X) (y : X) → In y (fold adds xs more) → In y xs ⊎ In y more
  fold_In xs [] y k = inl k
  fold_In xs (x ∷ more) y k = rest_In xs more x y (fold_In (adds xs x) more y k)

  adds_total : (f : X → ℕ) (xs : List X) (x : X) (b : Bool) (a n : ℕ) → a ≤ total f (if b then xs else xs ++ x ∷ []) + n → a ≤ total f xs + (f x + n)
  adds_total f xs x true a n h = omega (arith, h)
  adds_total f xs x false a n h = omega (arith, h, total-append f xs (x ∷ []))

  pub fold_total : (f : X → ℕ) (xs more : List X) → total f (fold adds xs more) ≤ total f xs + total f more
  fold_total f xs [] = omega arith
  fold_total f xs (x ∷ more) = adds_total f xs x (list_any (t x) xs) (total f (fold adds (adds xs x) more)) (total f more) (fold_total f (adds xs x) more)

  adds_keeps : (xs : List X) (x : X) (p : X → Bool) (b : Bool) → list_any p xs ≡ true → list_any p (if b then xs else xs ++ x ∷ []) ≡ true
  adds_keeps xs x p true h = h
  adds_keeps xs x p false h = list_any-append p xs (x ∷ []) ∙ or_left (list_any p xs) (list_any p (x ∷ [])) h

  fold_keeps : (p : X → Bool) (xs more : List X) → list_any p xs ≡ true → list_any p (fold adds xs more) ≡ true
  fold_keeps p xs [] h = h
  fold_keeps p xs (x ∷ more) h = fold_keeps p (adds xs x) more (adds_keeps xs x p (list_any (t x) xs) h)

  adds_there : (xs : List X) (x : X) (b : Bool) → t x x ≡ true → list_any (t x) xs ≡ b → list_any (t x) (if b then xs else xs ++ x ∷ []) ≡ true
  adds_there xs x true same e = e
  adds_there xs x false same e = list_any-append (t x) xs (x ∷ []) ∙ or_right (list_any (t x) xs) (t x x || false) (or_left (t x x) false same)

  -- each element that is added passes the test of one that is there at the end
  pub fold_there : ((x : X) → t x x ≡ true) → (xs more : List X) (y : X) → In y more → list_any (t y) (fold adds xs more) ≡ true
  fold_there same xs [] y k = absurd k
  fold_there same xs (x ∷ more) y (inl e) =
      fold_keeps (t y) (adds xs x) more (subst (λ v. list_any (t v) (adds xs x) ≡ true) (sym e) (adds_there xs x (list_any (t x) xs) (same x) refl))
  fold_there same xs (x ∷ more) y (inr k) = fold_there same (adds xs x) more y k

  -- an element before it doesn't pass the test
  pub before_fails : (xs : List X) (j : ℕ) (x y : X) → AreApart xs → slice_get xs j ≡ Some x → In y (take j xs) → t x y ≡ false
  before_fails [] j x y h e k = absurd cc
  before_fails (z ∷ zs) zero x y h e k = absurd k
  before_fails (z ∷ zs) (suc j) x y h e (inl f) = subst (λ v. t x v ≡ false) (sym f) (h.0 x (get-In zs j x e))
  before_fails (z ∷ zs) (suc j) x y h e (inr k) = before_fails zs j x y h.1 e k

-- How far a test passes from the front of a text, and from its end.

pub ruleset ends = (prefix_len-drop_yes, prefix_len-drop_no, prefix_len-drop_all, suffix_len-take_yes, suffix_len-take_no, suffix_len-le-length, prefix_len-le-length)

-- The place of the first element that passes a test.

below : (b : Bool) (n len : ℕ) → nat_lt n len ≡ b → IfSome (cond b (Some n) None) (λ i. i < len)
below true n len e = grind (arith, nat_tests)
below false n len e = tt

-- the place is within the list
pub position-below : {X : Type 0} (p : X → Bool) (xs : List X) → IfSome (position p xs) (λ i. i < length xs)
position-below p xs = below (nat_lt (position_or_len (λ x. p x) xs) (length xs)) (position_or_len (λ x. p x) xs) (length xs) refl

pub ruleset positions = (position-below)

-- The numbers of keys in a list, after one more key.

last_number : (b : Bool) (n m : ℕ) → m ≡ n → (if b then Some n else None) ≡ where_true b m
last_number true n m e = ap Some (sym e)
last_number false n m e = refl

first_number : (b : Bool) (n : ℕ) (o p last : Option ℕ) → o ≡ or_else p last → (if b then Some n else o) ≡ or_else (if b then Some n else p) last
first_number true n o p last e = refl
first_number false n o p last e = e

pub next_place : (i n : ℕ) → i + suc n ≡ suc i + n
next_place i n = omega arith

-- one key more: the keys before it have their numbers, and it has the next, unless it is there
pub number_more : (n : ℕ) (keys : List Key) (k q : Key) → number_from n (keys ++ k ∷ []) q ≡ or_else (number_from n keys q) (where_true (is_key k q) (length keys + n))
number_more n [] k q = last_number (is_key k q) n (0 + n) (zero-add n)
number_more n (x ∷ keys) k q =
    first_number (is_key x q) n (number_from (suc n) (keys ++ k ∷ []) q) (number_from (suc n) keys q) (where_true (is_key k q) (suc (length keys) + n))
    (number_more (suc n) keys k q ∙ ap (λ m. or_else (number_from (suc n) keys q) (where_true (is_key k q) m)) (next_place (length keys) n))

some_number : (b : Bool) (n : ℕ) (o : Option ℕ) (c : Bool) → is_some o ≡ c → is_some (if b then Some n else o) ≡ (b || c)
some_number true n o c e = refl
some_number false n o c e = e

-- a key has a number if it is there
pub numbered_if : (n : ℕ) (keys : List Key) (q : Key) → is_some (number_from n keys q) ≡ has_key keys q
numbered_if n [] q = refl
numbered_if n (x ∷ keys) q = some_number (is_key x q) n (number_from (suc n) keys q) (has_key keys q) (numbered_if (suc n) keys q)
