-- The first byte that passes a test, and what stands before it.
use Rattle.std.proofs.Common.{◌≡◌, ℕ, ◌<◌, ◌≤◌, Bool, true, false, cond, List, length, take, refl, sym, ap, arith, take_all, Some, None}
use Rattle.std.specs.Prelude.{nat_lt}
use Rattle.std.specs.List.{before_first, position, position_or_len}
use Rattle.std.proofs.lemmas.Bool.Decides.{nat_tests}

some_is : (b : Bool) (n m : ℕ) → cond b (Some n) None ≡ Some m → n ≡ m
some_is true n m e = cc
some_is false n m e = absurd cc

none_is : (b : Bool) (n : ℕ) → cond b (Some n) None ≡ None → b ≡ false
none_is true n e = absurd cc
none_is false n e = refl

pub position_before : {X : Type 0} (p : X → Bool) (xs : List X) (n : ℕ) → position p xs ≡ Some n → take n xs ≡ before_first p xs
position_before p xs n e = ap (λ (k : ℕ). take k xs) (sym (some_is (nat_lt (position_or_len p xs) (length xs)) (position_or_len p xs) n e))

pub position_none_before : {X : Type 0} (p : X → Bool) (xs : List X) → position p xs ≡ None → before_first p xs ≡ xs
position_none_before p xs e =
    let no = none_is (nat_lt (position_or_len p xs) (length xs)) (position_or_len p xs) e in
    let past : length xs ≤ position_or_len p xs = grind (arith, nat_tests) in
    take_all (position_or_len p xs) xs past

pub ruleset zeros = (position_before, position_none_before)
