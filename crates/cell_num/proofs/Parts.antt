-- A part of a part of a list.
use Rattle.std.proofs.Common.{◌≡◌, ℕ, ◌+◌, ◌-◌, ◌≤◌, List, length, take, drop, refl, subst, arith, take-take, drop-drop, length-take-le, length-drop}
use Rattle.std.specs.Prelude.{slice_range}
use Rattle.std.proofs.lemmas.List.{drop-take}

drop-take_by : {X : Type 0} (n m k : ℕ) (xs : List X) → m ≡ n + k → drop n (take m xs) ≡ take k (drop n xs)
drop-take_by n m k xs e = rw e (drop-take n k xs)

pub part_of_part : {X : Type 0} (xs : List X) (s l a n : ℕ) → a + n ≤ l → slice_range xs (s + a) (s + a + n) ≡ slice_range (slice_range xs s (s + l)) a (a + n)
part_of_part xs s l a n h =
    let e1 : (s + a + n) - (s + a) ≡ n = omega arith in
    let e2 : (a + n) - a ≡ n = omega arith in
    let e3 : (s + l) - s ≡ l = omega arith in
    rw (e1, e2, e3, drop-take_by a l (l - a) (drop s xs) (omega arith), take-take n (l - a) (drop a (drop s xs)) (omega arith), drop-drop a s xs) refl

length-part : {X : Type 0} (xs : List X) (s l : ℕ) → s + l ≤ length xs → length (slice_range xs s (s + l)) ≡ l
length-part xs s l h =
    let e : (s + l) - s ≡ l = omega arith in
    rw e (length-take-le l (drop s xs) (omega (arith, length-drop s xs)))

-- what is within a part is within the part's length
pub within_part : {X : Type 0} (xs ys : List X) (s l k : ℕ) → s + l ≤ length xs → slice_range xs s (s + l) ≡ ys → k ≤ length ys → k ≤ l
within_part xs ys s l k h e w =
    let same : length ys ≡ l = subst (λ (zs : List _). length zs ≡ l) e (length-part xs s l h) in omega arith
