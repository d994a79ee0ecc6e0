-- Words in a row.
--     is_within span w                  the word is above the one bound and below the other
--     OnlyNear span spots places        a word of the span can lie in these of the sections alone
--     IsPast span bytes rest            the words of the bytes before the rest are words of the span
--     IsSettled places span room cells  a list of cells has all that a word of the span lies in, or no room for them
use Rattle.std.specs.Prelude.{◌≡◌, ℕ, ◌^◌, ◌<◌, nat_lt, Bool, true, ◌&&◌, IsTrue, List, ◌++◌, Option}
use Rattle.std.specs.List.{list_all, list_any}
use Rattle.std.specs.Option.{option_map_or}
use Rattle.cell_num.specs.declared.ids.CellId.{CellId}
use Rattle.cell_world.specs.declared.state.Placed.{Placed}
use Rattle.cell_world.specs.Running.Words.{words_in}
use Rattle.cell_hold.specs.declared.spots.Spot.{Spot}
use Rattle.cell_hold.specs.declared.spots.Span.{Span}
use Rattle.cell_hold.specs.Adds.{has_or_full}
use Rattle.cell_hold.specs.Places.{is_at, is_cells_at}

abbrev pub is_above : Option ℕ → ℕ → Bool
is_above bound w = option_map_or (λ b. nat_lt b w) bound true

abbrev pub is_below : Option ℕ → ℕ → Bool
is_below bound w = option_map_or (λ b. nat_lt w b) bound true

abbrev pub is_within : Span → ℕ → Bool
is_within span w = is_above span.above w && is_below span.below w

-- so what is asked of the sections at a word can be asked of the spots
abbrev pub OnlyNear : Span → List Spot → List Placed → Type 0
OnlyNear span spots places =
    (w : ℕ) → w < 2 ^ 64 → is_within span w ≡ true → (p : Placed → Bool) → ((s : Placed) → p s ≡ true → is_at w s ≡ true)
    → list_any (λ r. p r.place) spots ≡ list_any p places

abbrev pub IsSettled : List Placed → Span → ℕ → List CellId → Type 0
IsSettled places span room cells =
    (w : ℕ) → w < 2 ^ 64 → is_within span w ≡ true → (c : ℕ) → is_cells_at c w places ≡ true → has_or_full cells room c ≡ true

pub record IsPast (span : Span) (bytes rest : List ℕ) : Type 0 where
  pub passed : List ℕ
  pub are : words_in bytes ≡ passed ++ words_in rest
  pub within : IsTrue (list_all (λ w. nat_lt w (2 ^ 64) && is_within span w) passed)
