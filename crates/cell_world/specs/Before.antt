-- Elements in the order of their keys.
--     AreBefore key n xs count     so many of the elements have a lower key than n, and these come first
use Rattle.std.specs.Prelude.{◌≡◌, ◌<◌, ◌≤◌, ℕ, nat_lt, true, false, List, length, slice_index_or}

abbrev pub AreBefore : {X : Type 0} → (X → ℕ) → ℕ → List X → ℕ → Type 0
AreBefore {X} key n xs count =
    ((k : ℕ) (d : X) → 0 ≤ k → k < count → nat_lt (key (slice_index_or xs k d)) n ≡ true)
    × ((k : ℕ) (d : X) → count ≤ k → k < length xs → nat_lt (key (slice_index_or xs k d)) n ≡ false)
