-- The pages of the space, as a table with one Bool a page: true where the page is taken.
--     IsSpace base pages           the base and the number of pages are within their limits
--     is_free table page           the page is in the table and free
--     is_free_run table page n     all n pages from that page on are in the table and free
--     lowest_run table n           the least page from which n pages are free
--     longest_run table            the length of the longest free run
--     is_taken_run table page n    all n pages from that page on are in the table and taken
--     filled xs from n x           the list with n places from that one on set
use Rattle.std.specs.Prelude.{◌≡◌, ◌≤◌, ℕ, ◌+◌, ◌%◌, Bool, false, true, not, List, [], ◌∷◌, ◌++◌, Option, length, take, drop, find, max, replicate, slice_index_or}
use Rattle.std.specs.List.{list_all, prefix_len}
use Rattle.cell_num.specs.Lists.{from_on, upto}
use Rattle.cell_num.specs.Limits.{max_base, max_pages, min_base, min_pages, page_size}

-- the first address of the space and its number of pages
pub record IsSpace (base pages : ℕ) : Type 0 where
  pub aligned : base % page_size ≡ 0
  pub lowest : min_base ≤ base
  pub highest : base ≤ max_base
  pub fewest : min_pages ≤ pages
  pub most : pages ≤ max_pages

-- a page that isn't in the table counts as taken
abbrev pub is_free : List Bool → ℕ → Bool
is_free table page = not (slice_index_or table page true)

abbrev pub is_free_run : List Bool → ℕ → ℕ → Bool
is_free_run table page n = list_all (is_free table) (from_on page n)

-- a page that isn't in the table isn't taken
abbrev pub is_taken_run : List Bool → ℕ → ℕ → Bool
is_taken_run table page n = list_all (λ k. slice_index_or table k false) (from_on page n)

-- n is at least 1
abbrev pub lowest_run : List Bool → ℕ → Option ℕ
lowest_run table n = find (λ page. is_free_run table page n) (upto (length table))

-- the run that the table begins with, or a later one
abbrev pub longest_run : List Bool → ℕ
longest_run [] = 0
longest_run (taken ∷ table) = max (prefix_len not (taken ∷ table)) (longest_run table)

-- the n places are in the list
abbrev pub filled : {X : Type 0} → List X → ℕ → ℕ → X → List X
filled xs from n x = take from xs ++ replicate n x ++ drop (from + n) xs
