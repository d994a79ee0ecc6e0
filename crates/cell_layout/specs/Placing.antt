-- Where the classes and sections of a new cell come to stand.
--     taken_by space end           the run of a class whose sections end there
--     all_taken_by space ends      the runs of the three classes, one after another
--     extra_start base table pages where an extra run of so many pages starts, of which there may be none
--     TakesPages, TakesRun, TakesRuns, FindsExtra    a run, the runs are taken in the space, or an extra one is found, or there is none
--     Places space object ..       a new cell's places and regions, and the space with them
use Rattle.std.specs.Prelude.{◌≡◌, ℕ, ◌/◌, ◌==◌, if◌then◌else◌, Bool, List, Option, Some, None, Result, Ok, Err, ◌≤◌, length, max}
use Rattle.cell_num.specs.Limits.{page_size}
use Rattle.cell_num.specs.Pages.{rounded_to_page}
use Rattle.cell_object.specs.declared.object.Object.{Object}
use Rattle.cell_world.specs.declared.refusal.Refusal.TheVariants.{Exhausted}
use Rattle.cell_world.specs.Outcome.{Outcome, ◌>>=◌}
use Rattle.cell_world.specs.Placed.Layout.{places_in}
use Rattle.cell_lemmas.specs.Loads.{Taken, AllTaken, take_run, take_runs, regions_at}
use Rattle.cell_place.specs.Space.{SpaceState}
use Rattle.cell_place.specs.declared.search.NoRun.{NoRun}
use Rattle.cell_layout.specs.declared.layout.Ends.{Ends}
use Rattle.cell_world.specs.declared.layout.Starts.{Starts}
use Rattle.cell_layout.specs.declared.placement.Placement.{Placement}
use Rattle.cell_layout.specs.declared.placement.PlaceFail.{PlaceFail}
use Rattle.cell_layout.specs.declared.placement.PlaceFail.TheVariants.{NoRoom, OutOfMemory}

-- whole pages, at least one
abbrev pub pages_by : ℕ → ℕ
pages_by end = max page_size (rounded_to_page end) / page_size

-- a class without a section takes no run
abbrev pub taken_by : ℕ → List Bool → Option ℕ → Outcome Taken
taken_by base table None = Ok (record { start = 0; table = table })
taken_by base table (Some end) = take_run base table (pages_by end)

abbrev pub all_taken_by : ℕ → List Bool → Ends → Outcome AllTaken
all_taken_by base table ends = do
  text ← taken_by base table ends.text
  read_only ← taken_by base text.table ends.read_only
  writable ← taken_by base read_only.table ends.writable
  let starts : Starts = record { text = text.start; read_only = read_only.start; writable = writable.start } in
      Ok (record { starts = starts; table = writable.table })

-- of no pages there is none
abbrev pub extra_start : ℕ → List Bool → ℕ → Outcome (Option ℕ)
extra_start base table pages = if pages == 0 then Ok None else (take_run base table pages >>= (λ run. Ok (Some run.start)))

abbrev pub TakesPages : SpaceState → ℕ → Result ℕ NoRun → SpaceState → Type 0
TakesPages old pages (Ok start) new =
    (take_run old.base old.taken pages ≡ Ok (record { start = start; table = new.taken })) × (new.base ≡ old.base)
TakesPages old pages (Err none) new = take_run old.base old.taken pages ≡ Err (Exhausted none.wanted none.largest)

abbrev pub FindsExtra : SpaceState → ℕ → Result (Option ℕ) NoRun → Type 0
FindsExtra space pages (Ok start) = extra_start space.base space.taken pages ≡ Ok start
FindsExtra space pages (Err none) = extra_start space.base space.taken pages ≡ Err (Exhausted none.wanted none.largest)

abbrev pub TakesRun : SpaceState → Option ℕ → Result ℕ NoRun → SpaceState → Type 0
TakesRun old end (Ok start) new =
    (taken_by old.base old.taken end ≡ Ok (record { start = start; table = new.taken })) × (new.base ≡ old.base)
TakesRun old end (Err none) new = taken_by old.base old.taken end ≡ Err (Exhausted none.wanted none.largest)

abbrev pub TakesRuns : SpaceState → Ends → Result Starts NoRun → SpaceState → Type 0
TakesRuns old ends (Ok starts) new =
    (all_taken_by old.base old.taken ends ≡ Ok (record { starts = starts; table = new.taken })) × (new.base ≡ old.base)
TakesRuns old ends (Err none) new = all_taken_by old.base old.taken ends ≡ Err (Exhausted none.wanted none.largest)

-- the cell stands where its classes take the lowest free runs
pub record IsPlacement (old : SpaceState) (object : Object) (p : Placement) (new : SpaceState) : Type 0 where
  pub starts : Starts
  pub runs : take_runs old.base old.taken object ≡ Ok (record { starts = starts; table = new.taken })
  pub base : new.base ≡ old.base
  pub few : length object.sections ≤ 65536
  pub places : p.places ≡ places_in starts object
  pub regions : p.regions.items ≡ regions_at starts object

abbrev pub Places : SpaceState → Object → Result Placement PlaceFail → SpaceState → Type 0
Places old object (Ok p) new = IsPlacement old object p new
Places old object (Err (NoRoom none)) new = take_runs old.base old.taken object ≡ Err (Exhausted none.wanted none.largest)
Places old object (Err OutOfMemory) new = Unit {0}
