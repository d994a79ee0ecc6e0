-- The sections by their cells.
use Rattle.std.proofs.Common.{◌≡◌, sym, ◌∙◌, ap, arith, ℕ, ◌-◌, ◌≤◌, ◌<◌, ◌⊎◌, inl, inr, Bool, true, false, ◌&&◌, List, length, take, drop, get_or}
use Rattle.std.specs.Prelude.{◌==◌, nat_le, nat_lt, filter}
use Rattle.std.specs.List.{list_any}
use Rattle.std.specs.List.Sorted.{IsPartitionPoint}
use Rattle.std.proofs.lemmas.Bool.{cases_lt, eq-eqb, ne_eqb, leb-true, leb-false, ltb-true, ltb-false}
use Rattle.std.proofs.lemmas.List.Sorted.{list_any-IsPermutation}
use Rattle.cell_world.specs.declared.state.Placed.{Placed}
use Rattle.cell_hold.specs.Spots.{IsIndexed}
use Rattle.cell_hold.proofs.Rows.{any_filtered, filter_row}

abbrev pub no_place : Placed
no_place = record { key = record { cell = record { 0 = 0 }; section = 0 }; start = 0; size = 0; write = false }

module _ (cell : ℕ) (places : List Placed) (start end : ℕ) (high : end ≤ length places)
    (lower : IsPartitionPoint (λ s. nat_lt s.key.cell.0 cell ≡ true) (λ s. nat_lt s.key.cell.0 cell ≡ false) places start)
    (up_to : IsPartitionPoint (λ s. nat_le s.key.cell.0 cell ≡ true) (λ s. nat_le s.key.cell.0 cell ≡ false) places end) where
  -- the lower cells are among those up to this one
  pub in_turn : start ≤ length places → start ≤ end
  in_turn within = go (cases_lt end start)
    where
      go : (end < start) ⊎ (start ≤ end) → start ≤ end
      go (inr k) = k
      go (inl k) =
          let low : (get_or places end no_place).key.cell.0 < cell = ltb-true (get_or places end no_place).key.cell.0 cell (lower.0 end no_place (omega arith) k) in
          let not_low : cell < (get_or places end no_place).key.cell.0 = leb-false (get_or places end no_place).key.cell.0 cell (up_to.1 end no_place (omega arith) (omega (arith, k, within))) in
          absurd (omega (arith, low, not_low))

  pub own_row : start ≤ length places → take (end - start) (drop start places) ≡ filter (λ s. s.key.cell.0 == cell) places
  own_row within =
      filter_row (λ (s : Placed). s.key.cell.0 == cell) places start end (in_turn within) high
      (λ k d a. let below : (get_or places k d).key.cell.0 < cell = ltb-true (get_or places k d).key.cell.0 cell (lower.0 k d (omega arith) a) in ne_eqb (get_or places k d).key.cell.0 cell (λ e. omega (arith, below, e)))
      (λ k d a b.
      let up : (get_or places k d).key.cell.0 ≤ cell = leb-true (get_or places k d).key.cell.0 cell (up_to.0 k d (omega arith) b) in
      let low : cell ≤ (get_or places k d).key.cell.0 = ltb-false (get_or places k d).key.cell.0 cell (lower.1 k d a (omega (arith, b, high))) in
      eq-eqb (get_or places k d).key.cell.0 cell (omega (arith, up, low)))
      (λ k d a b. let above : cell < (get_or places k d).key.cell.0 = leb-false (get_or places k d).key.cell.0 cell (up_to.1 k d a b) in ne_eqb (get_or places k d).key.cell.0 cell (λ e. omega (arith, above, e)))

-- one of the cell's own sections passes
pub any_own : (list by_cell : List Placed) → IsIndexed list by_cell → (p : Placed → Bool) (cell : ℕ) (own : List Placed) → own ≡ filter (λ s. s.key.cell.0 == cell) by_cell → list_any p own ≡ list_any (λ s. s.key.cell.0 == cell && p s) list
any_own list by_cell indexed p cell own is =
    ap (list_any p) is
    ∙ (any_filtered p (λ s. s.key.cell.0 == cell) by_cell
    ∙ sym (list_any-IsPermutation (λ s. s.key.cell.0 == cell && p s) list by_cell indexed.of_cells))
