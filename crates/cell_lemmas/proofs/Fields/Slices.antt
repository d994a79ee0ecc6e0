-- A write leaves the bytes that it doesn't meet.
use Rattle.std.proofs.Common.{◌≡◌, sym, ◌∙◌, ap, arith, ℕ, ◌+◌, ◌-◌, ◌≤◌, ◌<◌, ◌⊎◌, inl, inr, List, length, take, drop, get_or, length-drop}
use Rattle.std.specs.Prelude.{min, slice_range}
use Rattle.std.proofs.lemmas.List.{length-take, get_or-take, get_or-drop, ext_get_or}
use Rattle.cell_world.specs.Running.Memory.{pasted}
use Rattle.cell_lemmas.proofs.Fields.Patches.{length-pasted, pasted_before, pasted_after}

-- n bytes from place i on
abbrev pub slice : List ℕ → ℕ → ℕ → List ℕ
slice xs i n = take n (drop i xs)

pub slice_length : (xs : List ℕ) (i n : ℕ) → length (slice xs i n) ≡ min n (length xs - i)
slice_length xs i n = length-take n (drop i xs) ∙ ap (min n) (length-drop i xs)

in_slice : (xs : List ℕ) (i n k : ℕ) → k < length (slice xs i n) → k < n
in_slice xs i n k h = let e : length (slice xs i n) ≡ min n (length xs - i) = slice_length xs i n in omega (arith, h, e)

pub slice_at : (xs : List ℕ) (i n k : ℕ) → k < n → get_or (slice xs i n) k 0 ≡ get_or xs (i + k) 0
slice_at xs i n k h = get_or-take n (drop i xs) k 0 h ∙ get_or-drop i xs k 0

pub untouched : (bytes new : List ℕ) (j i n : ℕ) → j + length new ≤ length bytes → (i + n ≤ j) ⊎ (j + length new ≤ i) → slice (pasted bytes j new) i n ≡ slice bytes i n
untouched bytes new j i n h apart =
    ext_get_or 0 (slice (pasted bytes j new) i n) (slice bytes i n)
    (slice_length (pasted bytes j new) i n ∙ (ap (λ (m : ℕ). min n (m - i)) (length-pasted bytes new j h) ∙ sym (slice_length bytes i n)))
    (λ k l. let m : k < n = in_slice (pasted bytes j new) i n k l in slice_at (pasted bytes j new) i n k m ∙ (same k m apart ∙ sym (slice_at bytes i n k m)))
  where
    same : (k : ℕ) → k < n → (i + n ≤ j) ⊎ (j + length new ≤ i) → get_or (pasted bytes j new) (i + k) 0 ≡ get_or bytes (i + k) 0
    same k m (inl a) = pasted_before bytes new j (i + k) h (omega (arith, m, a))
    same k m (inr a) = pasted_after bytes new j (i + k) h (omega (arith, m, a))

pub range_untouched : (bytes new : List ℕ) (j i n : ℕ) → j + length new ≤ length bytes → (i + n ≤ j) ⊎ (j + length new ≤ i) → slice_range (pasted bytes j new) i (i + n) ≡ slice_range bytes i (i + n)
range_untouched bytes new j i n h apart =
    let e : i + n - i ≡ n = omega arith in
    ap (λ (m : ℕ). slice (pasted bytes j new) i m) e ∙ (untouched bytes new j i n h apart ∙ ap (λ (m : ℕ). slice bytes i m) (sym e))
