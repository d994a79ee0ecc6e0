-- Elements of a list that stand in a row.
use Rattle.std.proofs.Common.{◌≡◌, refl, sym, ◌∙◌, ap, arith, ℕ, zero, suc, ◌-◌, ◌≤◌, ◌<◌, Bool, true, false, cond, ◌&&◌, ◌||◌, List, [], ◌∷◌, map, length, take, drop, get_or, true≢false}
use Rattle.std.specs.Prelude.{filter}
use Rattle.std.specs.List.{list_any, list_all}
use Rattle.std.proofs.lemmas.Bool.{and_parts, or_left, or_right}

-- what passes stands in a row
module _ {X : Type 0} (p : X → Bool) where
  filter_head : (x : X) (xs : List X) → p x ≡ true → filter p (x ∷ xs) ≡ x ∷ filter p xs
  filter_head x xs e = ap (λ b. cond b (x ∷ filter p xs) (filter p xs)) e

  filter_skip : (x : X) (xs : List X) → p x ≡ false → filter p (x ∷ xs) ≡ filter p xs
  filter_skip x xs e = ap (λ b. cond b (x ∷ filter p xs) (filter p xs)) e

  pub filter_row : (xs : List X) (i j : ℕ) → i ≤ j → j ≤ length xs
      → ((k : ℕ) (d : X) → k < i → p (get_or xs k d) ≡ false)
      → ((k : ℕ) (d : X) → i ≤ k → k < j → p (get_or xs k d) ≡ true)
      → ((k : ℕ) (d : X) → j ≤ k → k < length xs → p (get_or xs k d) ≡ false)
      → take (j - i) (drop i xs) ≡ filter p xs
  filter_row [] zero zero le high before within behind = refl
  filter_row [] zero (suc j) le high before within behind = absurd (omega (arith, high))
  filter_row [] (suc i) j le high before within behind = absurd (omega (arith, le, high))
  filter_row (x ∷ xs) zero zero le high before within behind =
      filter_row xs zero zero (omega arith) (omega arith) (λ k d a. absurd (omega (arith, a))) (λ k d a b. absurd (omega (arith, b))) (λ k d a b. behind (suc k) d (omega arith) (omega (arith, b)))
      ∙ sym (filter_skip x xs (behind 0 x (omega arith) (omega arith)))
  filter_row (x ∷ xs) zero (suc j) le high before within behind =
      let e : suc j - 0 ≡ suc (j - 0) = omega arith in
      ap (λ n. take n (x ∷ xs)) e
      ∙ (ap (λ ys. x ∷ ys) (filter_row xs zero j (omega arith) (omega (arith, high)) (λ k d a. absurd (omega (arith, a))) (λ k d a b. within (suc k) d (omega arith) (omega (arith, b))) (λ k d a b. behind (suc k) d (omega (arith, a)) (omega (arith, b))))
      ∙ sym (filter_head x xs (within 0 x (omega arith) (omega arith))))
  filter_row (x ∷ xs) (suc i) zero le high before within behind = absurd (omega (arith, le))
  filter_row (x ∷ xs) (suc i) (suc j) le high before within behind =
      let e : suc j - suc i ≡ j - i = omega arith in
      ap (λ n. take n (drop i xs)) e
      ∙ (filter_row xs i j (omega (arith, le)) (omega (arith, high)) (λ k d a. before (suc k) d (omega (arith, a))) (λ k d a b. within (suc k) d (omega (arith, a)) (omega (arith, b))) (λ k d a b. behind (suc k) d (omega (arith, a)) (omega (arith, b)))
      ∙ sym (filter_skip x xs (before 0 x (omega arith))))

  -- where no element before the row and none behind it passes, those in the row decide
  pub any_row : (xs : List X) (i j : ℕ) → i ≤ j → j ≤ length xs
      → ((k : ℕ) (d : X) → k < i → p (get_or xs k d) ≡ false)
      → ((k : ℕ) (d : X) → j ≤ k → k < length xs → p (get_or xs k d) ≡ false)
      → list_any p (take (j - i) (drop i xs)) ≡ list_any p xs
  any_row [] zero zero le high before behind = refl
  any_row [] zero (suc j) le high before behind = absurd (omega (arith, high))
  any_row [] (suc i) j le high before behind = absurd (omega (arith, le, high))
  any_row (x ∷ xs) zero zero le high before behind =
      any_row xs zero zero (omega arith) (omega arith) (λ k d a. absurd (omega (arith, a))) (λ k d a b. behind (suc k) d (omega arith) (omega (arith, b)))
      ∙ sym (ap (λ b. b || list_any p xs) (behind 0 x (omega arith) (omega arith)))
  any_row (x ∷ xs) zero (suc j) le high before behind =
      let e : suc j - 0 ≡ suc (j - 0) = omega arith in
      ap (λ n. list_any p (take n (x ∷ xs))) e
      ∙ ap (λ b. p x || b) (any_row xs zero j (omega arith) (omega (arith, high)) (λ k d a. absurd (omega (arith, a))) (λ k d a b. behind (suc k) d (omega (arith, a)) (omega (arith, b))))
  any_row (x ∷ xs) (suc i) zero le high before behind = absurd (omega (arith, le))
  any_row (x ∷ xs) (suc i) (suc j) le high before behind =
      let e : suc j - suc i ≡ j - i = omega arith in
      ap (λ n. list_any p (take n (drop i xs))) e
      ∙ (any_row xs i j (omega (arith, le)) (omega (arith, high)) (λ k d a. before (suc k) d (omega (arith, a))) (λ k d a b. behind (suc k) d (omega (arith, a)) (omega (arith, b)))
      ∙ sym (ap (λ b. b || list_any p xs) (before 0 x (omega arith))))

-- some element of the filtered list passes
pub any_filtered : {X : Type 0} (p q : X → Bool) (xs : List X) → list_any p (filter q xs) ≡ list_any (λ x. q x && p x) xs
any_filtered p q [] = refl
any_filtered p q (x ∷ xs) = go (q x) (any_filtered p q xs)
  where
    go : (b : Bool) → list_any p (filter q xs) ≡ list_any (λ x. q x && p x) xs → list_any p (cond b (x ∷ filter q xs) (filter q xs)) ≡ ((b && p x) || list_any (λ x. q x && p x) xs)
    go true e = ap (λ b. p x || b) e
    go false e = e

-- what passes both tests passes a third, and all pass the second
pub any_all : {X : Type 0} (p q t : X → Bool) → ((x : X) → p x ≡ true → q x ≡ true → t x ≡ true) → (xs : List X) → list_any p xs ≡ true → list_all q xs ≡ true → list_any t xs ≡ true
any_all p q t f [] some all = absurd (true≢false (sym some))
any_all p q t f (x ∷ xs) some all = go (p x) refl some (and_parts (q x) (list_all q xs) all) (any_all p q t f xs)
  where
    go : (b : Bool) → p x ≡ b → (b || list_any p xs) ≡ true → (q x ≡ true) × (list_all q xs ≡ true) → (list_any p xs ≡ true → list_all q xs ≡ true → list_any t xs ≡ true) → (t x || list_any t xs) ≡ true
    go true e h a later = or_left (t x) (list_any t xs) (f x e a.0)
    go false e h a later = or_right (t x) (list_any t xs) (later h a.1)

pub any_mapped : {X Y : Type 0} (f : X → Y) (p : Y → Bool) (xs : List X) → list_any (λ x. p (f x)) xs ≡ list_any p (map f xs)
any_mapped f p [] = refl
any_mapped f p (x ∷ xs) = ap (λ b. p (f x) || b) (any_mapped f p xs)

pub get_mapped : {X Y : Type 0} (f : X → Y) (xs : List X) (k : ℕ) (d : X) → get_or (map f xs) k (f d) ≡ f (get_or xs k d)
get_mapped f [] k d = refl
get_mapped f (x ∷ xs) zero d = refl
get_mapped f (x ∷ xs) (suc k) d = get_mapped f xs k d

pub length_mapped : {X Y : Type 0} (f : X → Y) (xs : List X) → length (map f xs) ≡ length xs
length_mapped f [] = refl
length_mapped f (x ∷ xs) = ap (λ (n : ℕ). suc n) (length_mapped f xs)
