-- The two texts around the one such byte.
use Rattle.std.proofs.Common.{◌≡◌, refl, sym, subst, ap, ◌∙◌, arith, ℕ, suc, ◌+◌, ◌≤◌, Bool, true, false, cond, not, List, [], ◌∷◌, length, take, drop, Some, None}
use Rattle.std.specs.Prelude.{nat_lt, position, ◌==◌}
use Rattle.std.specs.List.{onto_first, position_or_len, slice_split}
use Rattle.std.proofs.lemmas.Bool.{ltb-true}
use Rattle.std.proofs.lemmas.Bool.Decides.{nat_tests}
use Rattle.std.proofs.lemmas.List.Splits.{slice_split_first}
use Rattle.cell_dumped.specs.Readings.{Word, around, two}

pub found_at : (b : Bool) (n m : ℕ) → cond b (Some n) None ≡ Some m → (b ≡ true) × (n ≡ m)
found_at true n m e = (refl, cc)
found_at false n m e = absurd cc

none_there : (b : Bool) (n : ℕ) → cond b (Some n) None ≡ None → b ≡ false
none_there true n e = absurd cc
none_there false n e = refl

-- the first part ends at the first element that passes
pub split_at : (p : ℕ → Bool) (xs : Word) (k : ℕ) → position p xs ≡ Some k → slice_split p xs ≡ take k xs ∷ slice_split p (drop (k + 1) xs)
split_at p xs k e =
    let f = found_at (nat_lt (position_or_len p xs) (length xs)) (position_or_len p xs) k e in
    let inside = ltb-true (position_or_len p xs) (length xs) f.0 in
    subst (λ (n : ℕ). slice_split p xs ≡ take n xs ∷ slice_split p (drop (n + 1) xs)) f.1 (slice_split_first p xs 0 inside)

unfound : (p : ℕ → Bool) (xs : Word) → length xs ≤ position_or_len p xs → slice_split p xs ≡ xs ∷ []
unfound p [] h = refl
unfound p (x ∷ xs) h = go (p x) h (λ k. unfound p xs k)
  where
    go : (b : Bool) → suc (length xs) ≤ cond (not b) (1 + position_or_len p xs) 0 → (length xs ≤ position_or_len p xs → slice_split p xs ≡ xs ∷ [])
        → cond b ([] ∷ slice_split p xs) (onto_first x (slice_split p xs)) ≡ (x ∷ xs) ∷ []
    go true h f = absurd (omega (arith, h))
    go false h f = ap (onto_first x) (f (omega (arith, h)))

-- where no element passes, the list is the one part
pub split_whole : (p : ℕ → Bool) (xs : Word) → position p xs ≡ None → slice_split p xs ≡ xs ∷ []
split_whole p xs e =
    let test = none_there (nat_lt (position_or_len p xs) (length xs)) (position_or_len p xs) e in
    let past : length xs ≤ position_or_len p xs = grind (arith, nat_tests) in
    unfound p xs past

three_parts : (p : ℕ → Bool) (a b zs : Word) → two (a ∷ b ∷ slice_split p zs) ≡ None
three_parts p a b [] = refl
three_parts p a b (z ∷ zs) = go (p z) (slice_split p zs)
  where
    go : (t : Bool) (parts : List Word) → two (a ∷ b ∷ cond t ([] ∷ parts) (onto_first z parts)) ≡ None
    go true parts = refl
    go false [] = refl
    go false (part ∷ parts) = refl

pub around_none : (byte : ℕ) (xs : Word) → position (λ b. b == byte) xs ≡ None → None ≡ around byte xs
around_none byte xs e = sym (ap two (split_whole (λ b. b == byte) xs e))

pub around_one : (byte : ℕ) (xs : Word) (k : ℕ) → position (λ b. b == byte) xs ≡ Some k → position (λ b. b == byte) (drop (k + 1) xs) ≡ None
    → Some (take k xs, drop (k + 1) xs) ≡ around byte xs
around_one byte xs k e f =
    sym (ap two (split_at (λ b. b == byte) xs k e ∙ ap (λ (parts : List Word). take k xs ∷ parts) (split_whole (λ b. b == byte) (drop (k + 1) xs) f)))

pub around_more : (byte : ℕ) (xs : Word) (k j : ℕ) → position (λ b. b == byte) xs ≡ Some k → position (λ b. b == byte) (drop (k + 1) xs) ≡ Some j
    → None ≡ around byte xs
around_more byte xs k j e f =
    sym (ap two (split_at (λ b. b == byte) xs k e ∙ ap (λ (parts : List Word). take k xs ∷ parts) (split_at (λ b. b == byte) (drop (k + 1) xs) j f))
    ∙ three_parts (λ b. b == byte) (take k xs) (take j (drop (k + 1) xs)) (drop (j + 1) (drop (k + 1) xs)))

pub ruleset arounds = (around_none, around_one, around_more)
