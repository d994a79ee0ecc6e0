-- What taking a run answers.
--     run_of table count            the lowest free run of so many pages, or how long the longest is
--     AreTakenBefore table page     all pages before that one are taken
--     HasRun table count page free  what a pass from the first free page up to that page has found
--     IsFound table page found      what a pass from the last page down to that page has found
use Rattle.std.specs.Prelude.{◌≡◌, ◌<◌, ◌≤◌, ◌-◌, ℕ, Bool, true, not, List, Some, None, Result, Ok, Err, drop, find, length, slice_index_or}
use Rattle.std.specs.List.{prefix_len}
use Rattle.cell_num.specs.Lists.{from_on}
use Rattle.cell_world.specs.Placed.Pages.{is_free_run, lowest_run, longest_run}
use Rattle.cell_place.specs.declared.search.Run.{Run}
use Rattle.cell_place.specs.declared.search.NoRun.{NoRun}
use Rattle.cell_place.specs.declared.search.Found.{Found}

abbrev pub run_of : List Bool → ℕ → Result Run NoRun
run_of table count =
    elim (lowest_run table count) [
      | Some page ↦ Ok (record { page = page; count = count })
      | None ↦ Err (record { wanted = count; largest = longest_run table })
    ]

abbrev pub AreTakenBefore : List Bool → ℕ → Type 0
AreTakenBefore table page = (k : ℕ) → k < page → slice_index_or table k true ≡ true

-- so many pages are free right before the page, too few, and of those that come earlier none has enough
pub record HasRun (table : List Bool) (count page free : ℕ) : Type 0 where
  pub short : free < count
  pub up : free ≤ page
  pub run : is_free_run table (page - free) free ≡ true
  pub so_far : lowest_run table count ≡ find (λ p. is_free_run table p count) (from_on (page - free) (length table - (page - free)))

pub record IsFound (table : List Bool) (page : ℕ) (found : Found) : Type 0 where
  pub free : found.free ≡ prefix_len not (drop page table)
  pub longest : found.longest ≡ longest_run (drop page table)
