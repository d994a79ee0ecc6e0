-- Cells by rising numbers, of which one is looked at after another.
use Rattle.std.proofs.Common.{◌≡◌, ℕ, zero, suc, ◌+◌, ◌-◌, ◌<◌, ◌≤◌, ap, true, false, List, [], ◌∷◌, length, get_or, arith}
use Rattle.std.specs.Prelude.{nat_lt}
use Rattle.std.proofs.lemmas.Bool.Decides.{nat_tests}
use Rattle.std.proofs.lemmas.List.{get_or_default}
use Rattle.cell_space.specs.declared.cell.SpaceCell.{SpaceCell}
use Rattle.cell_space.specs.Rising.{IsRising}

below_as : (a n : ℕ) → n ≤ a → nat_lt a n ≡ false
below_as a n le = grind (arith, nat_tests)

-- each number is as far above the first one as its place at least
pub climbs : (c : SpaceCell) (cells : List SpaceCell) → IsRising (c ∷ cells) → (k : ℕ) (d : SpaceCell) → k < length (c ∷ cells) → c.cell.0 + k ≤ (get_or (c ∷ cells) k d).cell.0
climbs c cells up zero d lt = omega arith
climbs c [] up (suc k) d lt = absurd (omega (arith, lt))
climbs c (e ∷ cells) up (suc k) d lt =
    let first = up.0 zero d (omega arith) in
    let rest = climbs e cells up.1 k d (omega (arith, lt)) in
    omega (arith, first, rest)

-- so those from there on aren't lower
pub past_most : (cells : List SpaceCell) (n : ℕ) (first : SpaceCell) → IsRising cells → first ≡ get_or cells 0 first
    → (k : ℕ) (d : SpaceCell) → n - first.cell.0 ≤ k → k < length cells → nat_lt (get_or cells k d).cell.0 n ≡ false
past_most [] n first up is k d le lt = absurd (omega (arith, lt))
past_most (c ∷ cells) n first up is k d le lt =
    let rise : c.cell.0 + k ≤ (get_or (c ∷ cells) k d).cell.0 = climbs c cells up k d lt in
    let same : first.cell.0 ≡ c.cell.0 = ap (λ (s : SpaceCell). s.cell.0) is in
    below_as (get_or (c ∷ cells) k d).cell.0 n (omega (arith, rise, same, le))

in_order : (cells : List SpaceCell) → IsRising cells → (i j : ℕ) (d : SpaceCell) → i ≤ j → j < length cells → (get_or cells i d).cell.0 ≤ (get_or cells j d).cell.0
in_order [] up i j d le lt = absurd (omega (arith, lt))
in_order (c ∷ cells) up zero zero d le lt = omega arith
in_order (c ∷ cells) up zero (suc j) d le lt = let first = up.0 j d (omega (arith, lt)) in omega (arith, first)
in_order (c ∷ cells) up (suc i) zero d le lt = absurd (omega (arith, le))
in_order (c ∷ cells) up (suc i) (suc j) d le lt = in_order cells up.1 i j d (omega (arith, le)) (omega (arith, lt))

lower_as : (a n : ℕ) → a < n → nat_lt a n ≡ true
lower_as a n lt = grind (arith, nat_tests)

module _ (cells : List SpaceCell) (n i : ℕ) (x : SpaceCell) (up : IsRising cells) (there : i < length cells) where
  same : (d : SpaceCell) → (get_or cells i d).cell.0 ≡ (get_or cells i x).cell.0
  same d = ap (λ (s : SpaceCell). s.cell.0) (get_or_default cells i d x there)

  -- what stands up to a lower one is lower
  pub all_lower : (get_or cells i x).cell.0 < n → (k : ℕ) (d : SpaceCell) → k < i + 1 → nat_lt (get_or cells k d).cell.0 n ≡ true
  all_lower low k d le =
      let ordered = in_order cells up k i d (omega (arith, le)) there in
      let this = same d in
      lower_as (get_or cells k d).cell.0 n (omega (arith, ordered, this, low))

  -- and from one on that isn't lower none is
  pub none_lower : n ≤ (get_or cells i x).cell.0 → (k : ℕ) (d : SpaceCell) → i ≤ k → k < length cells → nat_lt (get_or cells k d).cell.0 n ≡ false
  none_lower high k d le lt =
      let ordered = in_order cells up i k d le lt in
      let this = same d in
      below_as (get_or cells k d).cell.0 n (omega (arith, ordered, this, high))
