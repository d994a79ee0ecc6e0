-- The number that stands in bytes, as `byteorder` reads it.
use Rattle.std.proofs.Common.{◌≡◌, ℕ, zero, suc, ◌+◌, ◌-◌, ◌*◌, ◌≤◌, List, ◌∷◌, length, take, drop, get_or, refl, sym, ap, ◌∙◌, arith, add-one, length-drop}
use Rattle.std.specs.Prelude.{slice_range}
use Rattle.std.proofs.lemmas.List.{drop_more}
use Rattle.byteorder.specs.Endian.{little_from, little_number}
use Rattle.cell_num.specs.Bits.{little}

little_from_is : (n i : ℕ) (xs : List ℕ) → i + n ≤ length xs → little_from i n xs ≡ little (take n (drop i xs))
little_from_is zero i xs le = refl
little_from_is (suc n) i xs le =
    let head : drop i xs ≡ get_or xs i 0 ∷ drop (suc i) xs = drop_more xs i 0 (omega arith) ∙ ap (λ k. get_or xs i 0 ∷ drop k xs) (add-one i) in
    ap (λ k. get_or xs i 0 + 256 * k) (little_from_is n (suc i) xs (omega arith)) ∙ sym (ap (λ ys. little (take (suc n) ys)) head)

pub little_number_is : (n at : ℕ) (xs : List ℕ) → at + n ≤ length xs → little_number n (drop at xs) ≡ little (slice_range xs at (at + n))
little_number_is n at xs le =
    let room : 0 + n ≤ length (drop at xs) = omega (arith, length-drop at xs) in
    let count : at + n - at ≡ n = omega arith in
    little_from_is n 0 (drop at xs) room ∙ sym (ap (λ k. little (take k (drop at xs))) count)
