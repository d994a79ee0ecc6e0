-- Cells by rising numbers are in the order of their numbers.
use Rattle.std.proofs.Common.{◌≡◌, ℕ, zero, suc, ◌+◌, ◌<◌, ◌≤◌, Bool, true, false, cond, List, [], ◌∷◌, length, refl, ap, arith}
use Rattle.std.specs.Prelude.{All, nat_lt, not}
use Rattle.std.specs.List.{list_all, position_or_len}
use Rattle.std.proofs.lemmas.Bool.{and_from, lt-ltb}
use Rattle.std.proofs.lemmas.Bool.Decides.{nat_tests}
use Rattle.std.proofs.lemmas.List.Elements.{All-head, All-tail}
use Rattle.cell_num.specs.Lists.{each_pair}
use Rattle.cell_space.specs.declared.cell.SpaceCell.{SpaceCell}
use Rattle.cell_space.specs.Keys.{number_in}
use Rattle.cell_space.specs.Named.{is_higher}
use Rattle.cell_space.specs.Rising.{IsRising}
use Rattle.cell_world.specs.Before.{AreBefore}
use Rattle.cell_world.proofs.InOrder.{before}

above : (c : SpaceCell) (cells : List SpaceCell) → All (λ d. c.cell.0 < d.cell.0) cells → list_all (before number_in c) cells ≡ true
above c [] all = refl
above c (d ∷ cells) all =
    and_from (before number_in c d) (list_all (before number_in c) cells)
    (lt-ltb c.cell.0 d.cell.0 (All-head (λ e. c.cell.0 < e.cell.0) d cells all)) (above c cells (All-tail (λ e. c.cell.0 < e.cell.0) d cells all))

pub rising_pairs : (cells : List SpaceCell) → IsRising cells → each_pair (before number_in) cells ≡ true
rising_pairs [] up = refl
rising_pairs (c ∷ cells) up = and_from (list_all (before number_in c) cells) (each_pair (before number_in) cells) (above c cells up.0) (rising_pairs cells up.1)

is_over : (n k : ℕ) → nat_lt k (n + 1) ≡ false → nat_lt n k ≡ true
is_over n k e = grind (arith, nat_tests)

is_under : (n k : ℕ) → nat_lt k (n + 1) ≡ true → nat_lt n k ≡ false
is_under n k e = grind (arith, nat_tests)

stops : (higher : Bool) (rest : ℕ) → higher ≡ true → cond (not higher) (1 + rest) 0 ≡ 0
stops higher rest e = ap (λ b. cond (not b) (1 + rest) 0) e

goes_on : (higher : Bool) (rest i : ℕ) → higher ≡ false → rest ≡ i → cond (not higher) (1 + rest) 0 ≡ suc i
goes_on true rest i e f = absurd (cc e)
goes_on false rest i e f = omega (arith, f)

-- the first of a higher number stands where those of that number and below end
pub first_higher : (n : ℕ) (cells : List SpaceCell) (i : ℕ) → i ≤ length cells → AreBefore number_in (n + 1) cells i → position_or_len (is_higher n) cells ≡ i
first_higher n [] i le are = omega (arith, le)
first_higher n (c ∷ cells) zero le are =
    stops (is_higher n c) (position_or_len (is_higher n) cells) (is_over n c.cell.0 (are.1 0 c (omega arith) (omega arith)))
first_higher n (c ∷ cells) (suc i) le are =
    goes_on (is_higher n c) (position_or_len (is_higher n) cells) i (is_under n c.cell.0 (are.0 0 c (omega arith) (omega arith)))
    (first_higher n cells i (omega (arith, le)) (λ k d low high. are.0 (suc k) d (omega arith) (omega (arith, high)), λ k d low high. are.1 (suc k) d (omega (arith, low)) (omega (arith, high))))
