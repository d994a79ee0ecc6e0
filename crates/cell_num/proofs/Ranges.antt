-- What holds of the elements of a list that has some for each number of a range.
use Rattle.std.proofs.Common.{◌≡◌, ℕ, zero, suc, ◌+◌, ◌<◌, ◌≤◌, refl, sym, ap, ◌∙◌, subst, arith, ◌⊎◌, inl, inr, Bool, true, false, cond, List, [], ◌∷◌, ◌++◌, length, map, length-append}
use Rattle.std.specs.Prelude.{◌*◌, Option, Some, None}
use Rattle.std.specs.List.{find, flat_map, range_with_len}
use Rattle.std.proofs.lemmas.List.Folds.{find-append}
use Rattle.cell_num.specs.Lists.{In, each_pair}
use Rattle.cell_num.proofs.Elements.{In-left, In-right, In-append}
use Rattle.cell_num.proofs.Sublists.{pairs-append}

module _ {X : Type 0} where
  pub In-one : (x y : X) → In x (y ∷ []) → x ≡ y
  In-one x y (inl e) = e
  In-one x y (inr k) = absurd k

  none_found : (p : X → Bool) (y : X) (rest : Option X) → p y ≡ false → rest ≡ None → cond (p y) (Some y) rest ≡ None
  none_found p y rest e k = rw e k

  -- where none passes, none is found
  pub none_found-In : (p : X → Bool) (xs : List X) → ((x : X) → In x xs → p x ≡ false) → find p xs ≡ None
  none_found-In p [] f = refl
  none_found-In p (y ∷ ys) f = none_found p y (find p ys) (f y (inl refl)) (none_found-In p ys (λ x k. f x (inr k)))

  -- an element of a list for each of some numbers
  pub In-range : (f : ℕ → List X) (k a : ℕ) (x : X) → In x (flat_map f (range_with_len a k)) → (n : ℕ) × (a ≤ n) × (n < a + k) × (In x (f n))
  In-range f zero a x h = absurd h
  In-range f (suc k) a x h = elim (In-append (f a) (flat_map f (range_with_len (a + 1) k)) x h) [
    | inl here ↦ (a, omega arith, omega arith, here)
    | inr later ↦ let ih = In-range f k (a + 1) x later in (ih.0, omega (arith, ih.1), omega (arith, ih.2), ih.3)
  ]

  pub range-In : (f : ℕ → List X) (k a n : ℕ) (x : X) → a ≤ n → n < a + k → In x (f n) → In x (flat_map f (range_with_len a k))
  range-In f zero a n x low high h = absurd (omega arith)
  range-In f (suc k) a n x low high h = elim (first a n low) [
    | inl here ↦ In-left (f a) (flat_map f (range_with_len (a + 1) k)) x (subst (λ (m : ℕ). In x (f m)) here h)
    | inr later ↦ In-right (f a) (flat_map f (range_with_len (a + 1) k)) x (range-In f k (a + 1) n x later (omega arith) h)
  ]
    where
      first : (a n : ℕ) → a ≤ n → (n ≡ a) ⊎ (a + 1 ≤ n)
      first a n h = grind arith

  -- the first that passes, where only one number gives any
  pub find-range : (p : X → Bool) (f : ℕ → List X) (k a n : ℕ) (x : X) → a ≤ n → n < a + k → f n ≡ x ∷ [] → p x ≡ true
      → ((m : ℕ) (y : X) → m < n → In y (f m) → p y ≡ false) → find p (flat_map f (range_with_len a k)) ≡ Some x
  find-range p f zero a n x low high is t none = absurd (omega arith)
  find-range p f (suc k) a n x low high is t none =
      find-append p (f a) (flat_map f (range_with_len (a + 1) k)) ∙ elim (first a n low) [
        | inl here ↦ rw (← here, is, t) refl
        | inr later ↦ rw (none_found-In p (f a) (λ y h. none a y (omega arith) h)) (find-range p f k (a + 1) n x later (omega arith) is t none)
      ]
    where
      first : (a n : ℕ) → a ≤ n → (n ≡ a) ⊎ (a + 1 ≤ n)
      first a n h = grind arith

  -- a test of pairs that holds for each number, and across two numbers
  pub pairs-range : (t : X → X → Bool) (f : ℕ → List X) (k a : ℕ) → ((n : ℕ) → a ≤ n → n < a + k → each_pair t (f n) ≡ true)
      → ((m n : ℕ) (x y : X) → a ≤ m → m < n → n < a + k → In x (f m) → In y (f n) → t x y ≡ true) → each_pair t (flat_map f (range_with_len a k)) ≡ true
  pairs-range t f zero a within across = refl
  pairs-range t f (suc k) a within across =
      pairs-append t (f a) (flat_map f (range_with_len (a + 1) k)) (within a (omega arith) (omega arith))
      (pairs-range t f k (a + 1) (λ n low high. within n (omega arith) (omega arith)) (λ m n x y low less high i j. across m n x y (omega arith) less (omega arith) i j))
      (λ x y i j. let at = In-range f k (a + 1) y j in across a at.0 x y (omega arith) (omega (arith, at.1)) (omega (arith, at.2)) i at.3)

  pub length-range : (f : ℕ → List X) (bound k a : ℕ) → ((n : ℕ) → a ≤ n → n < a + k → length (f n) ≤ bound) → length (flat_map f (range_with_len a k)) ≤ k * bound
  length-range f bound zero a each = omega arith
  length-range f bound (suc k) a each =
      let here = each a (omega arith) (omega arith) in
      let ih = length-range f bound k (a + 1) (λ n low high. each n (omega arith) (omega arith)) in
      omega (arith, here, ih, length-append (f a) (flat_map f (range_with_len (a + 1) k)))

  -- one element for each number
  pub map-flat_map : (f : ℕ → X) (ns : List ℕ) → map f ns ≡ flat_map (λ n. f n ∷ []) ns
  map-flat_map f [] = refl
  map-flat_map f (n ∷ ns) = ap (λ (xs : List X). f n ∷ xs) (map-flat_map f ns)

first_or_later : (a n : ℕ) → a ≤ n → (n ≡ a) ⊎ (a + 1 ≤ n)
first_or_later a n h = grind arith

pub In-numbers : (k a n : ℕ) → a ≤ n → n < a + k → In n (range_with_len a k)
In-numbers zero a n low high = absurd (omega arith)
In-numbers (suc k) a n low high = elim (first_or_later a n low) [
  | inl here ↦ inl here
  | inr later ↦ inr (In-numbers k (a + 1) n later (omega arith))
]
