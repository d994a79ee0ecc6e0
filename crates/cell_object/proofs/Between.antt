-- Numbers in two runs, and what is made of each.
use Rattle.std.proofs.Common.{◌≡◌, ℕ, zero, suc, ◌+◌, ◌-◌, ◌<◌, ◌≤◌, List, [], ◌∷◌, ◌++◌, refl, ap, ◌∙◌, arith}
use Rattle.std.specs.List.{flat_map, range_with_len}
use Rattle.std.proofs.lemmas.List.Concat.{flat_map-append}
use Rattle.std.proofs.lemmas.List.{append-nil}
use Rattle.cell_object.specs.Bytes.{between}

range-split : (k a n : ℕ) → range_with_len a (k + n) ≡ range_with_len a k ++ range_with_len (a + k) n
range-split zero a n =
    let e : 0 + n ≡ n = omega arith in let e2 : a + 0 ≡ a = omega arith in rw (e, e2) refl
range-split (suc k) a n =
    let e : suc k + n ≡ suc (k + n) = omega arith in
    let e2 : a + suc k ≡ (a + 1) + k = omega arith in
    rw (e, e2) (ap (λ (xs : List ℕ). a ∷ xs) (range-split k (a + 1) n))

pub between-split : (a j n : ℕ) → a ≤ j → j ≤ n → between a n ≡ between a j ++ between j n
unfolding between
between-split a j n h k =
    let e : n - a ≡ (j - a) + (n - j) = omega arith in
    let e2 : a + (j - a) ≡ j = omega arith in
    rw e (range-split (j - a) a (n - j) ∙ ap (λ (m : ℕ). range_with_len a (j - a) ++ range_with_len m (n - j)) e2)

pub between-first : (j n : ℕ) → j < n → between j n ≡ j ∷ between (j + 1) n
unfolding between
between-first j n h =
    let e : n - j ≡ suc (n - (j + 1)) = omega arith in rw e refl

pub between-none : (a n : ℕ) → n ≤ a → between a n ≡ []
unfolding between
between-none a n h = let e : n - a ≡ 0 = omega arith in rw e refl

pub between-more : (a j : ℕ) → a ≤ j → between a (j + 1) ≡ between a j ++ j ∷ []
between-more a j h =
    let lt : j < j + 1 = omega arith in
    let le : j ≤ j + 1 = omega arith in
    between-split a j (j + 1) h le ∙ ap (λ (xs : List ℕ). between a j ++ xs) (between-first j (j + 1) lt ∙ ap (λ (xs : List ℕ). j ∷ xs) (between-none (j + 1) (j + 1) (omega arith)))

pub flat_map-between-more : {X : Type 0} (f : ℕ → List X) (a j : ℕ) → a ≤ j → flat_map f (between a (j + 1)) ≡ flat_map f (between a j) ++ f j
flat_map-between-more {X = X} f a j h =
    ap (flat_map f) (between-more a j h) ∙ flat_map-append f (between a j) (j ∷ []) ∙ ap (λ (xs : List X). flat_map f (between a j) ++ xs) (append-nil (f j))

pub flat_map-between-none : {X : Type 0} (f : ℕ → List X) (a n : ℕ) → n ≤ a → flat_map f (between a n) ≡ []
flat_map-between-none f a n h = rw (between-none a n h) refl

pub flat_map-between-split : {X : Type 0} (f : ℕ → List X) (a j n : ℕ) → a ≤ j → j < n → flat_map f (between a n) ≡ flat_map f (between a j) ++ (f j ++ flat_map f (between (j + 1) n))
flat_map-between-split f a j n h k =
    let le : j ≤ n = omega arith in
    ap (flat_map f) (between-split a j n h le ∙ ap (λ (xs : List ℕ). between a j ++ xs) (between-first j n k)) ∙ flat_map-append f (between a j) (j ∷ between (j + 1) n)

-- a loop from a to n, which may be below a, has seen what is between them when it ends
pub between-end : (a j n : ℕ) → n ≤ j → (n < j → j ≡ a) → between a j ≡ between a n
unfolding between
between-end a j n h e =
    let same : j - a ≡ n - a = grind arith in rw same refl
