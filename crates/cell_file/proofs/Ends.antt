-- The last zero byte of a string table, and the strings before it.
use Rattle.std.proofs.Common.{◌≡◌, ◌≢◌, All, ℕ, zero, suc, ◌+◌, ◌-◌, ◌<◌, ◌≤◌, min, Bool, true, false, not, cond, List, [], ◌∷◌, length, take, drop, refl, sym, ap, ◌∙◌, arith, take_all, take-take, get_or, drop-drop, length-take-le, length-drop, Some, None}
use Rattle.std.specs.Prelude.{nat_lt, slice_range, is_some, unwrap_or}
use Rattle.std.specs.List.{before_first, position, position_or_len}
use Rattle.std.specs.Option.{option_map}
use Rattle.std.proofs.lemmas.Bool.Decides.{nat_tests}
use Rattle.std.proofs.lemmas.List.{drop-take, take_rest}
use Rattle.std.proofs.lemmas.List.Elements.{All-head, All-tail, All-from_get_or}
use Rattle.cell_object.specs.Bytes.{is_zero, string_at}
use Rattle.cell_file.specs.Ends.{last_end}

abbrev pub IsNotZero : ℕ → Type 0
IsNotZero b = b ≢ 0

-- no zero byte
pub last_end_none : (xs : List ℕ) → All IsNotZero xs → last_end xs ≡ 0
last_end_none [] none = refl
last_end_none (x ∷ xs) none =
    let head = All-head IsNotZero x xs none in
    let rest = last_end_none xs (All-tail IsNotZero x xs none) in
    grind (arith, nat_tests, head, rest)

-- the last zero byte at a place
pub last_end_at : (xs : List ℕ) (i : ℕ) → i < length xs → get_or xs i 0 ≡ 0 → ((k : ℕ) → i + 1 ≤ k → k < length xs → get_or xs k 0 ≢ 0) → last_end xs ≡ i + 1
last_end_at [] i h here after = absurd (omega (arith, h))
last_end_at (x ∷ xs) zero h here after =
    grind (arith, nat_tests, here, last_end_none xs (All-from_get_or IsNotZero xs 0 (λ k in_xs. after (suc k) (omega arith) (omega arith))))
last_end_at (x ∷ xs) (suc i) h here after =
    grind (arith, nat_tests, last_end_at xs i (omega arith) here (λ k l m. after (suc k) (omega arith) (omega arith)))

ends_at : (at : ℕ) (xs : List ℕ) → nat_lt (position_or_len is_zero (drop at xs)) (length (drop at xs)) ≡ nat_lt at (last_end xs)
ends_at zero [] = refl
ends_at (suc at) [] = grind (arith, nat_tests)
ends_at zero (x ∷ xs) = grind (arith, nat_tests, ends_at zero xs)
ends_at (suc at) (x ∷ xs) = grind (arith, nat_tests, ends_at at xs)

chosen : {X : Type 0} (f : ℕ → X) (b : Bool) (n : ℕ) → is_some (option_map f (cond b (Some n) None)) ≡ b
chosen f true n = refl
chosen f false n = refl

pub has_end : (at : ℕ) (table : List ℕ) → is_some (string_at at table) ≡ nat_lt at (last_end table)
unfolding string_at
has_end at table =
    let rest = drop at table in
    chosen (λ (len : ℕ). take len rest) (nat_lt (position_or_len is_zero rest) (length rest)) (position_or_len is_zero rest) ∙ ends_at at table

-- where a string begins, it ends before the table does
pub string_ends : (at : ℕ) (table : List ℕ) → is_some (string_at at table) ≡ true → position_or_len is_zero (drop at table) < length (drop at table)
unfolding string_at
string_ends at table e =
    let rest = drop at table in
    let b = sym (chosen (λ (len : ℕ). take len rest) (nat_lt (position_or_len is_zero rest) (length rest)) (position_or_len is_zero rest)) ∙ e in
    grind (arith, nat_tests, b)

pub string_begins : (at : ℕ) (table : List ℕ) → is_some (string_at at table) ≡ true → at < length table
string_begins at table e = omega (arith, string_ends at table e, length-drop at table)

taken : (b : Bool) (n : ℕ) (rest : List ℕ) → is_some (option_map (λ len. take len rest) (cond b (Some n) None)) ≡ true → option_map (λ len. take len rest) (cond b (Some n) None) ≡ Some (take n rest)
taken true n rest e = refl
taken false n rest e = absurd cc

pub string_is : (at : ℕ) (table : List ℕ) → is_some (string_at at table) ≡ true → string_at at table ≡ Some (before_first is_zero (drop at table))
unfolding string_at
string_is at table e = taken _ _ (drop at table) e

drop-take_by : {X : Type 0} (n m k : ℕ) (xs : List X) → m ≡ n + k → drop n (take m xs) ≡ take k (drop n xs)
drop-take_by n m k xs e = rw e (drop-take n k xs)

-- the end of a part
pub end_of_part : (xs : List ℕ) (s l a : ℕ) → a ≤ l → slice_range xs (s + a) (s + a + (l - a)) ≡ drop a (slice_range xs s (s + l))
end_of_part xs s l a h =
    let e1 : (s + a + (l - a)) - (s + a) ≡ l - a = omega arith in
    let e3 : (s + l) - s ≡ l = omega arith in
    rw (e1, e3, drop-take_by a l (l - a) (drop s xs) (omega arith), drop-drop a s xs) refl

pub ruleset begins = (string_begins, string_is, string_ends)

pub ruleset texts = (string_begins, string_is, end_of_part)

pub ruleset tables = (take_all)

position_or_len-take : {X : Type 0} (p : X → Bool) (k : ℕ) (xs : List X) → position_or_len p (take k xs) ≡ min k (position_or_len p xs)
position_or_len-take p zero [] = omega arith
position_or_len-take p (suc k) [] = omega arith
position_or_len-take p zero (x ∷ xs) = omega arith
position_or_len-take p (suc k) (x ∷ xs) = by_head (p x) (position_or_len p (take k xs)) (position_or_len p xs) (position_or_len-take p k xs)
  where
    by_head : (b : Bool) (m n : ℕ) → m ≡ min k n → cond (not b) (1 + m) 0 ≡ min (suc k) (cond (not b) (1 + n) 0)
    by_head true m n e = omega arith
    by_head false m n e = omega arith

some_is : (b : Bool) (m n : ℕ) → cond b (Some m) None ≡ Some n → (b ≡ true) × (m ≡ n)
some_is true m n e = (refl, cc)
some_is false m n e = absurd cc

none_is : (b : Bool) (m : ℕ) → cond b (Some m) None ≡ None → b ≡ false
none_is true m e = absurd cc
none_is false m e = refl

pub seen_some : {X : Type 0} (p : X → Bool) (xs : List X) (k n : ℕ) → k ≤ length xs → position p (take k xs) ≡ Some n → take n (take k xs) ≡ before_first p xs
seen_some p xs k n h e =
    let found = some_is _ _ _ e in
    let inside : position_or_len p (take k xs) < length (take k xs) = grind (arith, nat_tests, found.0) in
    let same : n ≡ position_or_len p xs = omega (arith, found.1, inside, position_or_len-take p k xs, length-take-le k xs h) in
    let few : n ≤ k = omega (arith, found.1, inside, length-take-le k xs h) in
    take-take n k xs few ∙ ap (λ (m : ℕ). take m xs) same

pub seen_none : {X : Type 0} (p : X → Bool) (xs : List X) (k : ℕ) → k ≤ length xs → position p (take k xs) ≡ None → position_or_len p xs < length xs → (k ≤ length (before_first p xs)) × (length (before_first p xs) < length xs)
seen_none p xs k h e there =
    let past : length (take k xs) ≤ position_or_len p (take k xs) = grind (arith, nat_tests, none_is _ _ e) in
    let whole = length-take-le (position_or_len p xs) xs (omega arith) in
    (omega (arith, past, position_or_len-take p k xs, length-take-le k xs h, whole), omega (arith, whole))

-- the string, by the bytes from its place on
pub text_of : (at : ℕ) (table : List ℕ) → is_some (string_at at table) ≡ true → unwrap_or (string_at at table) [] ≡ before_first is_zero (take (length table - at) (drop at table))
text_of at table e = rw (string_is at table e, take_rest table at) refl

pub rest_ends : (at : ℕ) (table : List ℕ) → is_some (string_at at table) ≡ true → position_or_len is_zero (take (length table - at) (drop at table)) < length (take (length table - at) (drop at table))
rest_ends at table e = rw (take_rest table at) (string_ends at table e)
