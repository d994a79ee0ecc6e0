-- Lists of cells without memory of their own.
--     Roomy                        a list, and how many cells there is room for
--     has_cell cells c             the cell is in the list
--     AreMarked cells marks        a mark says whether the cell of its number is in the list
--     IsOnceEach cells             no cell stands there twice
--     Adds test room old new       new is old and then, while there is room, what passes the test and wasn't there
--     Spreads may must room done old new   new is old and then what may be reached, and has what must be from its first `done` cells
use Rattle.std.specs.Prelude.{ℕ, ◌≡◌, ◌≤◌, ◌<◌, nat_le, ◌==◌, Bool, true, false, ◌||◌, List, ◌++◌, length, slice_index_or, take}
use Rattle.std.specs.List.{list_any, count_by}
use Rattle.cell_num.specs.declared.ids.CellId.{CellId}

pub record Roomy : Type 0 where
  pub items : List CellId
  pub room : ℕ

abbrev pub has_cell : List CellId → ℕ → Bool
has_cell cells c = list_any (λ x. x.0 == c) cells

abbrev pub AreMarked : List CellId → List Bool → Type 0
AreMarked cells marks = (c : ℕ) → c < length marks → slice_index_or marks c false ≡ has_cell cells c

abbrev pub IsOnceEach : List CellId → Type 0
IsOnceEach cells = (c : ℕ) → count_by (λ x. x.0 == c) cells ≤ 1

-- the cell is there, or there is no room for it
abbrev pub has_or_full : List CellId → ℕ → ℕ → Bool
has_or_full cells room c = has_cell cells c || nat_le room (length cells)

pub record Adds (test : ℕ → Bool) (room : ℕ) (old new : List CellId) : Type 0 where
  pub more : List CellId
  pub is : new ≡ old ++ more
  pub once : IsOnceEach old → IsOnceEach new
  pub only : (c : ℕ) → has_cell new c ≡ true → (has_cell old c || test c) ≡ true
  pub has : (c : ℕ) → test c ≡ true → has_or_full new room c ≡ true

pub record Spreads (may must : ℕ → ℕ → Bool) (room done : ℕ) (old new : List CellId) : Type 0 where
  pub more : List CellId
  pub is : new ≡ old ++ more
  pub once : IsOnceEach old → IsOnceEach new
  -- what goes on along `may` and holds of the old cells holds of the new ones
  pub only : (p : ℕ → Bool) → ((a b : ℕ) → p a ≡ true → may a b ≡ true → p b ≡ true) → ((c : ℕ) → has_cell old c ≡ true → p c ≡ true) → (c : ℕ) → has_cell new c ≡ true → p c ≡ true
  pub has : (a b : ℕ) → has_cell (take done new) a ≡ true → must a b ≡ true → has_or_full new room b ≡ true
