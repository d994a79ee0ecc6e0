-- Numbers that rise.
--     IsRising low numbers high     the numbers rise, from low on and below high
--     HasAt numbers place n         the number stands at that place
--     Lacks numbers n               it stands nowhere
use Rattle.std.specs.Prelude.{◌≡◌, ◌≢◌, ◌<◌, ◌≤◌, ℕ, suc, List, [], ◌∷◌, length, slice_index_or}

abbrev pub IsRising : ℕ → List ℕ → ℕ → Type 0
IsRising low [] high = low ≤ high
IsRising low (n ∷ numbers) high = (low ≤ n) × IsRising (suc n) numbers high

abbrev pub RisesSomewhere : List ℕ → Type 0
RisesSomewhere numbers = (high : ℕ) × IsRising 1 numbers high

pub record HasAt (numbers : List ℕ) (place n : ℕ) : Type 0 where
  pub inside : place < length numbers
  pub is : slice_index_or numbers place 0 ≡ n

abbrev pub Lacks : List ℕ → ℕ → Type 0
Lacks numbers n = (place : ℕ) → place < length numbers → slice_index_or numbers place 0 ≢ n
