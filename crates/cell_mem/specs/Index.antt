-- Where the regions lie, and how they are kept: each at the page that it begins at, with the number of that page at each of its pages.
--     IsLaid low regions high       whole pages between the two addresses, ascending and apart
--     held pages                    the regions that stand at the pages
--     AreInPlace addr pages         each begins at its page, and the first page at the address
--     IsIndex base regions firsts   each page has the first page of the region that it lies in
use Rattle.std.specs.Prelude.{◌≡◌, ◌<◌, ◌≤◌, ℕ, ◌+◌, ◌-◌, ◌*◌, ◌/◌, ◌%◌, Bool, List, [], ◌∷◌, Option, Some, None, length, find, slice_index_or, option_map}
use Rattle.cell_num.specs.Limits.{page_size}
use Rattle.cell_world.specs.World.{Region}
use Rattle.cell_world.specs.Running.Memory.{covers, end_of}

-- one or more whole pages
pub record IsWhole (r : Region) : Type 0 where
  pub aligned : r.start % page_size ≡ 0
  pub whole : length r.bytes % page_size ≡ 0
  pub filled : 1 ≤ length r.bytes

abbrev pub IsLaid : ℕ → List Region → ℕ → Type 0
IsLaid low [] high = low ≤ high
IsLaid low (r ∷ regions) high = (low ≤ r.start) × IsWhole r × IsLaid (end_of r) regions high

abbrev pub held : List (Option Region) → List Region
held [] = []
held (None ∷ pages) = held pages
held (Some r ∷ pages) = r ∷ held pages

abbrev pub AreInPlace : ℕ → List (Option Region) → Type 0
AreInPlace addr [] = Unit {0}
AreInPlace addr (None ∷ pages) = AreInPlace (addr + page_size) pages
AreInPlace addr (Some r ∷ pages) = (r.start ≡ addr) × AreInPlace (addr + page_size) pages

-- the page that a region begins at
abbrev pub first_page : ℕ → Region → ℕ
first_page base r = (r.start - base) / page_size

abbrev pub covers_page : ℕ → ℕ → Region → Bool
covers_page base page r = covers r (base + page_size * page)

abbrev pub IsIndex : ℕ → List Region → List (Option ℕ) → Type 0
IsIndex base regions firsts =
    (page : ℕ) → page < length firsts → slice_index_or firsts page None ≡ option_map (first_page base) (find (covers_page base page) regions)
