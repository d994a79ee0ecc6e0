-- Partition points that are seen at one index.
use Rattle.std.proofs.Common.{◌≡◌, ◌∙◌, ℕ, ◌+◌, ◌-◌, ◌<◌, ◌≤◌, ◌⊎◌, inl, inr, Bool, true, false, List, length, get_or, refl, sym, ap, arith, below_more}
use Rattle.std.specs.Prelude.{nat_le, nat_lt}
use Rattle.std.specs.List.Sorted.{IsNonDecreasingBy, IsPartitionedBy, IsPartitionPoint}
use Rattle.std.proofs.lemmas.Bool.{false≢true, ltb-true}
use Rattle.std.proofs.lemmas.Bool.Decides.{nat_tests}
use Rattle.std.proofs.lemmas.List.{get_or_default}
use Rattle.std.proofs.lemmas.List.Sorted.{IsPartitionedBy-ltb, IsPartitionedBy-leb}
use Rattle.cell_world.specs.declared.state.Placed.{Placed}

stays_false : (a b : Bool) → (a ≡ true → b ≡ true) → b ≡ false → a ≡ false
stays_false true b goes fails = absurd (false≢true (sym fails ∙ goes refl))
stays_false false b goes fails = refl

module _ {X : Type 0} (p : X → Bool) where
  behind : (xs : List X) (n : ℕ) → IsPartitionedBy p xs → (n ≡ length xs) ⊎ ((d : X) → p (get_or xs n d) ≡ false) → (k : ℕ) (d : X) → n ≤ k → k < length xs → p (get_or xs k d) ≡ false
  behind xs n ordered (inl none) k d a b = absurd (omega arith)
  behind xs n ordered (inr first) k d a b = stays_false (p (get_or xs k d)) (p (get_or xs n d)) (ordered n k d a b) (first d)

  before : (xs : List X) (n : ℕ) → IsPartitionedBy p xs → n ≤ length xs → (n ≡ 0) ⊎ ((d : X) → p (get_or xs (n - 1) d) ≡ true) → (k : ℕ) (d : X) → 0 ≤ k → k < n → p (get_or xs k d) ≡ true
  before xs n ordered within (inl none) k d a b = absurd (omega arith)
  before xs n ordered within (inr last) k d a b = ordered k (n - 1) d (omega arith) (omega arith) (last d)

  -- the last before the index passes, and the first from it on doesn't
  pub point_here : (xs : List X) (n : ℕ) → IsPartitionedBy p xs → n ≤ length xs
      → (n ≡ 0) ⊎ ((d : X) → p (get_or xs (n - 1) d) ≡ true)
      → (n ≡ length xs) ⊎ ((d : X) → p (get_or xs n d) ≡ false)
      → IsPartitionPoint (λ y. p y ≡ true) (λ y. p y ≡ false) xs n
  point_here xs n ordered within low high = (before xs n ordered within low, behind xs n ordered high)

  -- so many pass, and the next one doesn't
  pub point_counted : (xs : List X) (n : ℕ) → IsPartitionedBy p xs → ((k : ℕ) (d : X) → k < n → p (get_or xs k d) ≡ true)
      → (n ≡ length xs) ⊎ ((d : X) → p (get_or xs n d) ≡ false)
      → IsPartitionPoint (λ y. p y ≡ true) (λ y. p y ≡ false) xs n
  point_counted xs n ordered low high = (λ k d a b. low k d b, behind xs n ordered high)

lower_as : (a n : ℕ) → a < n → nat_lt a n ≡ true
lower_as a n lt = grind (arith, nat_tests)

not_lower : (a n : ℕ) → n ≤ a → nat_lt a n ≡ false
not_lower a n le = grind (arith, nat_tests)

up_to_as : (a n : ℕ) → a ≤ n → nat_le a n ≡ true
up_to_as a n le = grind (arith, nat_tests)

above_as : (a n : ℕ) → n < a → nat_le a n ≡ false
above_as a n lt = grind (arith, nat_tests)

module _ (places : List Placed) (cell : ℕ) (rises : IsNonDecreasingBy (λ s. s.key.cell.0) places) where
  number_at : (i : ℕ) (d e : Placed) → i < length places → (get_or places i d).key.cell.0 ≡ (get_or places i e).key.cell.0
  number_at i d e lt = ap (λ (s : Placed). s.key.cell.0) (get_or_default places i d e lt)

  pub lower_at : (i : ℕ) (d : Placed) → i < length places → (get_or places i d).key.cell.0 < cell → (e : Placed) → (get_or places i e).key.cell.0 < cell
  lower_at i d lt low e = let same = number_at i d e lt in omega (arith, low, same)

  pub no_lower_at : (i : ℕ) (d : Placed) → i < length places → cell ≤ (get_or places i d).key.cell.0 → (e : Placed) → cell ≤ (get_or places i e).key.cell.0
  no_lower_at i d lt high e = let same = number_at i d e lt in omega (arith, high, same)

  -- the lower ones end at the index, where the one before it is lower and its own isn't
  pub starts_here : (n : ℕ) → n ≤ length places
      → (n ≡ 0) ⊎ ((d : Placed) → (get_or places (n - 1) d).key.cell.0 < cell)
      → (n ≡ length places) ⊎ ((d : Placed) → cell ≤ (get_or places n d).key.cell.0)
      → IsPartitionPoint (λ s. nat_lt s.key.cell.0 cell ≡ true) (λ s. nat_lt s.key.cell.0 cell ≡ false) places n
  starts_here n within low high = point_here (λ s. nat_lt s.key.cell.0 cell) places n (IsPartitionedBy-ltb (λ (s : Placed). s.key.cell.0) places cell rises) within (below low) (behind_it high)
    where
      below : (n ≡ 0) ⊎ ((d : Placed) → (get_or places (n - 1) d).key.cell.0 < cell) → (n ≡ 0) ⊎ ((d : Placed) → nat_lt (get_or places (n - 1) d).key.cell.0 cell ≡ true)
      below (inl none) = inl none
      below (inr last) = inr (λ d. lower_as (get_or places (n - 1) d).key.cell.0 cell (last d))

      behind_it : (n ≡ length places) ⊎ ((d : Placed) → cell ≤ (get_or places n d).key.cell.0) → (n ≡ length places) ⊎ ((d : Placed) → nat_lt (get_or places n d).key.cell.0 cell ≡ false)
      behind_it (inl none) = inl none
      behind_it (inr first) = inr (λ d. not_lower (get_or places n d).key.cell.0 cell (first d))

  -- one more that isn't above
  pub one_more : (n : ℕ) (x : Placed) → n < length places → (get_or places n x).key.cell.0 ≤ cell
      → ((k : ℕ) (d : Placed) → k < n → nat_le (get_or places k d).key.cell.0 cell ≡ true)
      → (k : ℕ) (d : Placed) → k < n + 1 → nat_le (get_or places k d).key.cell.0 cell ≡ true
  one_more n x there le so_far k d lt = below_more (λ k. (d : Placed) → nat_le (get_or places k d).key.cell.0 cell ≡ true) n (λ k lt d. so_far k d lt) here k lt d
    where
      here : (d : Placed) → nat_le (get_or places n d).key.cell.0 cell ≡ true
      here d = let same = number_at n d x there in up_to_as (get_or places n d).key.cell.0 cell (omega (arith, le, same))

  -- the first one above ends those of the cell
  pub ends_here : (n : ℕ) (x : Placed) → n < length places → cell < (get_or places n x).key.cell.0
      → ((k : ℕ) (d : Placed) → k < n → nat_le (get_or places k d).key.cell.0 cell ≡ true)
      → IsPartitionPoint (λ s. nat_le s.key.cell.0 cell ≡ true) (λ s. nat_le s.key.cell.0 cell ≡ false) places n
  ends_here n x there above so_far =
      point_counted (λ s. nat_le s.key.cell.0 cell) places n (IsPartitionedBy-leb (λ (s : Placed). s.key.cell.0) places cell rises) so_far
      (inr (λ d. let same = number_at n d x there in above_as (get_or places n d).key.cell.0 cell (omega (arith, above, same))))

  pub none_above : (n : ℕ) → n ≡ length places → ((k : ℕ) (d : Placed) → k < n → nat_le (get_or places k d).key.cell.0 cell ≡ true)
      → IsPartitionPoint (λ s. nat_le s.key.cell.0 cell ≡ true) (λ s. nat_le s.key.cell.0 cell ≡ false) places n
  none_above n all so_far = point_counted (λ s. nat_le s.key.cell.0 cell) places n (IsPartitionedBy-leb (λ (s : Placed). s.key.cell.0) places cell rises) so_far (inl all)

  -- those that are lower aren't above
  pub lower_first : (n : ℕ) → n ≤ length places → IsPartitionPoint (λ s. nat_lt s.key.cell.0 cell ≡ true) (λ s. nat_lt s.key.cell.0 cell ≡ false) places n
      → (k : ℕ) (d : Placed) → k < n → nat_le (get_or places k d).key.cell.0 cell ≡ true
  lower_first n within point k d lt =
      let low : (get_or places k d).key.cell.0 < cell = ltb-true (get_or places k d).key.cell.0 cell (point.0 k d (omega arith) lt) in
      up_to_as (get_or places k d).key.cell.0 cell (omega (arith, low))
