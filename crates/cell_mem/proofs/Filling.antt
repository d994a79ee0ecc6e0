-- Places that are set one after another.
use Rattle.std.proofs.Common.{◌≡◌, ℕ, ◌+◌, ◌-◌, ◌<◌, ◌≤◌, List, ◌++◌, length, take, drop, get_or, replicate, sym, ap, ◌∙◌, arith, length-append, length-drop}
use Rattle.std.proofs.Math.ListN.{set}
use Rattle.std.proofs.lemmas.List.{take_all, length-replicate, length-take-le, get_or_append_left, get_or-append_right, get_or-take, get_or-drop, get_or-replicate}
use Rattle.std.proofs.lemmas.List.Edits.{fill_from_more}
use Rattle.cell_world.specs.Placed.Pages.{filled}

whole : {X : Type 0} (xs : List X) (from i : ℕ) (x : X) → filled xs from i x ≡ take from xs ++ take i (replicate i x) ++ drop (from + i) xs
whole {X} xs from i x =
    ap (λ (some : List X). take from xs ++ some ++ drop (from + i) xs)
    (sym (take_all i (replicate i x) (omega (arith, length-replicate i x))))

-- one place more
pub filled_more : {X : Type 0} (xs : List X) (from i : ℕ) (x : X) → from + i < length xs → set (filled xs from i x) (from + i) x ≡ filled xs from (i + 1) x
filled_more xs from i x lt =
    ap (λ l. set l (from + i) x) (whole xs from i x) ∙ fill_from_more xs from i x lt ∙ sym (whole xs from (i + 1) x)

pub length-filled : {X : Type 0} (xs : List X) (from n : ℕ) (x : X) → from + n ≤ length xs → length (filled xs from n x) ≡ length xs
length-filled xs from n x within =
    omega (arith, length-append (take from xs ++ replicate n x) (drop (from + n) xs), length-append (take from xs) (replicate n x), length-replicate n x, length-take-le from xs (omega arith), length-drop (from + n) xs)

module _ {X : Type 0} (xs : List X) (from n : ℕ) (x : X) (within : from + n ≤ length xs) (k : ℕ) (d : X) where
  front : length (take from xs) ≡ from
  front = length-take-le from xs (omega arith)

  both : length (take from xs ++ replicate n x) ≡ from + n
  both = omega (arith, length-append (take from xs) (replicate n x), length-replicate n x, front)

  -- a place that was set
  pub filled_inside : from ≤ k → k < from + n → get_or (filled xs from n x) k d ≡ x
  filled_inside low high =
      get_or_append_left (take from xs ++ replicate n x) (drop (from + n) xs) d k (omega (arith, both))
      ∙ get_or-append_right (take from xs) (replicate n x) from k d front low
      ∙ get_or-replicate n (k - from) x d (omega arith)

  -- a place before
  pub filled_below : k < from → get_or (filled xs from n x) k d ≡ get_or xs k d
  filled_below low =
      get_or_append_left (take from xs ++ replicate n x) (drop (from + n) xs) d k (omega (arith, both))
      ∙ get_or_append_left (take from xs) (replicate n x) d k (omega (arith, front))
      ∙ get_or-take from xs k d low

  -- a place after
  pub filled_above : from + n ≤ k → get_or (filled xs from n x) k d ≡ get_or xs k d
  filled_above high =
      get_or-append_right (take from xs ++ replicate n x) (drop (from + n) xs) (from + n) k d both high
      ∙ get_or-drop (from + n) xs (k - (from + n)) d
      ∙ ap (λ i. get_or xs i d) (omega arith)
