-- The parts of a file's name.
use Rattle.std.proofs.Common.{◌≡◌, ℕ, ◌+◌, ◌-◌, ◌<◌, ◌≤◌, ◌⊎◌, inl, inr, Bool, false, cond, List, Some, None, length, take, drop, ap, ◌∙◌, arith}
use Rattle.std.specs.Prelude.{unwrap_or, position, nat_lt, ◌==◌, ◌||◌}
use Rattle.std.specs.List.{position_or_len}
use Rattle.std.proofs.lemmas.Bool.{cases_lt, lt-ltb}
use Rattle.std.proofs.lemmas.Bool.Decides.{nat_tests}
use Rattle.std.proofs.lemmas.List.{drop-drop, take_all, length-drop}
use Rattle.std.proofs.lemmas.List.Sums.{prefix_len-le-length}
use Rattle.cell_world.specs.Gather.{stem_of_file}

not_below : (n m : ℕ) → m ≤ n → nat_lt n m ≡ false
not_below n m le = grind (arith, nat_tests)

-- the place where the test first passes, or else the end
pub place_or_end : {X : Type 0} (p : X → Bool) (xs : List X) → unwrap_or (position p xs) (length xs) ≡ position_or_len p xs
place_or_end {X} p xs = go (cases_lt (position_or_len p xs) (length xs))
  where
    go : (position_or_len p xs < length xs) ⊎ (length xs ≤ position_or_len p xs) → unwrap_or (position p xs) (length xs) ≡ position_or_len p xs
    go (inl lt) = ap (λ b. unwrap_or (cond b (Some (position_or_len p xs)) None) (length xs)) (lt-ltb (position_or_len p xs) (length xs) lt)
    go (inr le) =
        ap (λ b. unwrap_or (cond b (Some (position_or_len p xs)) None) (length xs)) (not_below (position_or_len p xs) (length xs) le)
        ∙ (let most : position_or_len p xs ≤ length xs = prefix_len-le-length _ xs in omega arith)

-- the stem is what stands behind the namespace, up to a dash or a dot
pub stem_is : (name rest : List ℕ) (hash end : ℕ) → hash ≡ position_or_len (λ b. b == 35) name → rest ≡ drop 1 (take (length name - hash) (drop hash name)) → end ≡ position_or_len (λ b. b == 45 || b == 46) rest
    → take end rest ≡ stem_of_file name
stem_is name rest hash end h r e =
    let behind : rest ≡ drop (position_or_len (λ b. b == 35) name + 1) name = r ∙ ap (drop 1) (take_all (length name - hash) (drop hash name) (omega (arith, length-drop hash name))) ∙ drop-drop 1 hash name ∙ ap (λ n. drop (n + 1) name) h in
    ap (λ n. take n rest) e ∙ ap (λ xs. take (position_or_len (λ b. b == 45 || b == 46) xs) xs) behind
