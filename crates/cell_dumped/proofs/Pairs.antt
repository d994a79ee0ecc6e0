-- Bytes that are read two digits at a time.
use Rattle.std.proofs.Common.{◌≡◌, refl, sym, ◌∙◌, ap, arith, ℕ, ◌-◌, ◌≤◌, ◌<◌, Bool, true, false, cond, ◌&&◌, List, [], ◌∷◌, ◌++◌, length, take, drop, get_or, append_assoc, Option, Some, None, option_map}
use Rattle.std.proofs.lemmas.List.{take_rest}
use Rattle.std.specs.Prelude.{if◌then◌else◌}
use Rattle.std.specs.Str.Parse.{digits_value}
use Rattle.cell_text.specs.Number.{is_hex_digit}
use Rattle.cell_dumped.specs.Readings.{byte_values}

-- the byte of two digits, if they are digits
abbrev pub pair : ℕ → ℕ → Option ℕ
pair a b = if is_hex_digit a && is_hex_digit b then Some (digits_value 16 (a ∷ b ∷ [])) else None

pub one_more : (bytes : List ℕ) (a b n : ℕ) (rest : List ℕ) → pair a b ≡ Some n
    → option_map (λ later. (bytes ++ n ∷ []) ++ later) (byte_values rest) ≡ option_map (λ later. bytes ++ later) (byte_values (a ∷ b ∷ rest))
one_more bytes a b n rest e = go (is_hex_digit a && is_hex_digit b) (digits_value 16 (a ∷ b ∷ [])) (byte_values rest) e
  where
    go : (t : Bool) (v : ℕ) (o : Option (List ℕ)) → cond t (Some v) None ≡ Some n
        → option_map (λ later. (bytes ++ n ∷ []) ++ later) o ≡ option_map (λ later. bytes ++ later) (cond t (option_map (λ more. v ∷ more) o) None)
    go true v None e = refl
    go true v (Some later) e = let same : v ≡ n = cc in rw (same, append_assoc) refl
    go false v o e = absurd cc

-- two that aren't digits end it
pub no_pair : (a b : ℕ) (rest : List ℕ) → pair a b ≡ None → byte_values (a ∷ b ∷ rest) ≡ None
no_pair a b rest e = go (is_hex_digit a && is_hex_digit b) (digits_value 16 (a ∷ b ∷ [])) (byte_values rest) e
  where
    go : (t : Bool) (v : ℕ) (o : Option (List ℕ)) → cond t (Some v) None ≡ None → cond t (option_map (λ more. v ∷ more) o) None ≡ None
    go true v o e = absurd cc
    go false v o e = refl

-- one digit alone is no byte
pub odd_one : (rest : List ℕ) → 0 < length rest → length rest < 2 → byte_values rest ≡ None
odd_one [] h k = absurd (omega (arith, h))
odd_one (a ∷ []) h k = refl
odd_one (a ∷ b ∷ rest) h k = absurd (omega (arith, k))

-- two digits more
pub read_on : (bytes more rest : List ℕ) (n : ℕ) → 2 ≤ length rest → Some n ≡ pair (get_or rest 0 0) (get_or rest 1 0) → more ≡ bytes ++ n ∷ []
    → option_map (λ later. more ++ later) (byte_values (take (length rest - 2) (drop 2 rest))) ≡ option_map (λ later. bytes ++ later) (byte_values rest)
read_on bytes more [] n h e m = absurd (omega (arith, h))
read_on bytes more (a ∷ []) n h e m = absurd (omega (arith, h))
read_on bytes more (a ∷ b ∷ rest) n h e m =
    ap (λ (r : List ℕ). option_map (λ later. more ++ later) (byte_values r)) (take_rest (a ∷ b ∷ rest) 2)
    ∙ (ap (λ (bs : List ℕ). option_map (λ later. bs ++ later) (byte_values rest)) m
    ∙ one_more bytes a b n rest (sym e))
