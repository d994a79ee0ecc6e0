-- Lists with one element more.
use Rattle.std.proofs.Common.{◌≡◌, refl, sym, ◌∙◌, ap, arith, ℕ, zero, suc, ◌+◌, ◌<◌, List, [], ◌∷◌, ◌++◌, map, length, get_or, take, drop, append_assoc}
use Rattle.std.proofs.Math.ListN.{set}
use Rattle.std.proofs.lemmas.List.{length-take-le, map-append, take_more}
use Rattle.cell_num.specs.Lists.{from_on, numbered, numbered_from, upto}

-- an element in its own place after the function, as those before it
pub set_more : {X : Type 0} (f : X → X) (xs : List X) (i : ℕ) (d : X) → i < length xs
    → set (map f (take i xs) ++ drop i xs) i (f (get_or (map f (take i xs) ++ drop i xs) i d)) ≡ map f (take (i + 1) xs) ++ drop (i + 1) xs
set_more f [] i d lt = absurd (omega arith)
set_more f (x ∷ xs) zero d lt = refl
set_more f (x ∷ xs) (suc i) d lt =
    ap (λ ys. f x ∷ ys) (set_more f xs i d (omega arith))
    ∙ ap (λ n. map f (take n (x ∷ xs)) ++ drop n (x ∷ xs)) (let e : suc (i + 1) ≡ suc i + 1 = omega arith in e)

-- the same, of a list that is so far
pub mapped_on : {X : Type 0} (f : X → X) (xs items : List X) (i : ℕ) (d new : X) → i < length xs → items ≡ map f (take i xs) ++ drop i xs → new ≡ f (get_or items i d)
    → set items i new ≡ map f (take (i + 1) xs) ++ drop (i + 1) xs
mapped_on {X = X} f xs items i d new lt far is =
    ap (set items i) is ∙ (ap (λ (ys : List X). set ys i (f (get_or ys i d))) far ∙ set_more f xs i d lt)

from_more : (a n : ℕ) → from_on a (suc n) ≡ from_on a n ++ (a + n) ∷ []
from_more a zero = let e : a ≡ a + 0 = omega arith in ap (λ (m : ℕ). m ∷ []) e
from_more a (suc n) = let e : suc a + n ≡ a + suc n = omega arith in ap (λ (xs : List ℕ). a ∷ xs) (from_more (suc a) n ∙ ap (λ (m : ℕ). from_on (suc a) n ++ m ∷ []) e)

numbered_append : {X : Type 0} (a : ℕ) (xs : List X) (x : X) → numbered_from a (xs ++ x ∷ []) ≡ numbered_from a xs ++ (a + length xs, x) ∷ []
numbered_append a [] x = let e : a ≡ a + 0 = omega arith in ap (λ (n : ℕ). (n, x) ∷ []) e
numbered_append {X = X} a (y ∷ ys) x =
    let e : suc a + length ys ≡ a + suc (length ys) = omega arith in
    ap (λ (zs : List (ℕ × X)). (a, y) ∷ zs) (numbered_append (suc a) ys x ∙ ap (λ (n : ℕ). numbered_from (suc a) ys ++ (n, x) ∷ []) e)

module _ {Y : Type 0} (given : List Y) where
  -- so many numbers, and one more
  pub mapped_upto : (f : ℕ → Y) (n : ℕ) (old new : List Y) → old ≡ given ++ map f (upto n) → new ≡ old ++ f n ∷ [] → new ≡ given ++ map f (upto (n + 1))
  mapped_upto f n old new so_far more =
      let one : n + 1 ≡ suc n = omega arith in
      let same : 0 + n ≡ n = omega arith in
      let next : upto (n + 1) ≡ upto n ++ n ∷ [] = ap upto one ∙ from_more 0 n ∙ ap (λ (m : ℕ). upto n ++ m ∷ []) same in
      more
      ∙ ap (λ (ys : List Y). ys ++ f n ∷ []) so_far
      ∙ append_assoc given (map f (upto n)) (f n ∷ [])
      ∙ ap (λ (ys : List Y). given ++ ys) (sym (ap (map f) next ∙ map-append f (upto n) (n ∷ [])))

module _ {X Y : Type 0} (given : List Y) where
  -- so many elements with their places, and one more
  pub mapped_numbered : (f : ℕ × X → Y) (xs : List X) (i : ℕ) (d : X) (old new : List Y) → i < length xs
      → old ≡ given ++ map f (numbered (take i xs)) → new ≡ old ++ f (i, get_or xs i d) ∷ [] → new ≡ given ++ map f (numbered (take (i + 1) xs))
  mapped_numbered f xs i d old new lt so_far more =
      let count : length (take i xs) ≡ i = length-take-le i xs (omega (arith, lt)) in
      let place : 0 + length (take i xs) ≡ i = omega (arith, count) in
      let next : numbered (take (i + 1) xs) ≡ numbered (take i xs) ++ (i, get_or xs i d) ∷ [] =
      ap numbered (take_more xs i d lt) ∙ numbered_append 0 (take i xs) (get_or xs i d) ∙ ap (λ (n : ℕ). numbered (take i xs) ++ (n, get_or xs i d) ∷ []) place in
      more
      ∙ ap (λ (ys : List Y). ys ++ f (i, get_or xs i d) ∷ []) so_far
      ∙ append_assoc given (map f (numbered (take i xs))) (f (i, get_or xs i d) ∷ [])
      ∙ ap (λ (ys : List Y). given ++ ys) (sym (ap (map f) next ∙ map-append f (numbered (take i xs)) ((i, get_or xs i d) ∷ [])))
