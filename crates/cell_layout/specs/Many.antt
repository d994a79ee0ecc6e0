-- Where the classes and sections of new cells come to stand, the cells one after another, and an extra run behind them.
--     all_places starts cells           the places of each cell
--     FindsAll space cells ..           where the cells stand and their regions, and the space with their runs
--     take_with base table objects pages    where the extra run starts once the runs of the objects are taken, or the refusal
--     PlacesAll space cells pages ..    the cells in their places, and what was taken; or the refusal, and the cells as they were
use Rattle.std.specs.Prelude.{◌≡◌, ◌≤◌, ℕ, Bool, List, [], ◌∷◌, Option, Result, Ok, Err, All, length, map}
use Rattle.cell_object.specs.declared.object.Object.{Object}
use Rattle.cell_world.specs.declared.refusal.Refusal.TheVariants.{Exhausted}
use Rattle.cell_world.specs.declared.state.NewCell.{NewCell}
use Rattle.cell_world.specs.declared.state.SecPlace.{SecPlace}
use Rattle.cell_world.specs.declared.layout.Starts.{Starts}
use Rattle.cell_world.specs.Outcome.{Outcome, ◌>>=◌}
use Rattle.cell_world.specs.Placed.Layout.{places_in}
use Rattle.cell_lemmas.specs.Loads.{take_all, all_regions}
use Rattle.cell_place.specs.Space.{SpaceState}
use Rattle.cell_layout.specs.declared.cells.TakenRuns.{TakenRuns}
use Rattle.cell_layout.specs.declared.placements.Placements.{Placements}
use Rattle.cell_layout.specs.declared.placement.PlaceFail.{PlaceFail}
use Rattle.cell_layout.specs.declared.placement.PlaceFail.TheVariants.{NoRoom, OutOfMemory}
use Rattle.cell_layout.specs.Placing.{extra_start}

abbrev pub in_places : Starts → NewCell → NewCell
in_places starts c = record c { places = places_in starts c.object }

-- each cell with its places
abbrev pub all_in_places : List Starts → List NewCell → List NewCell
all_in_places [] cells = []
all_in_places (s ∷ starts) [] = []
all_in_places (s ∷ starts) (c ∷ cells) = in_places s c ∷ all_in_places starts cells

abbrev pub objects : List NewCell → List Object
objects cells = map (λ c. c.object) cells

-- the places of each cell
abbrev pub all_places : List Starts → List NewCell → List (List SecPlace)
all_places [] cells = []
all_places (s ∷ starts) [] = []
all_places (s ∷ starts) (c ∷ cells) = places_in s c.object ∷ all_places starts cells

-- the cells with these places
abbrev pub with_places : List (List SecPlace) → List NewCell → List NewCell
with_places [] cells = cells
with_places (p ∷ places) [] = []
with_places (p ∷ places) (c ∷ cells) = record c { places = p } ∷ with_places places cells

-- the cells' classes take the lowest free runs, one cell after another
pub record AreFound (old : SpaceState) (from : List NewCell) (p : Placements) (new : SpaceState) : Type 0 where
  pub starts : List Starts
  pub each : length starts ≡ length from
  pub runs : take_all old.base old.taken (objects from) ≡ Ok (record { starts = starts; table = new.taken })
  pub base : new.base ≡ old.base
  pub few : All (λ c. length c.object.sections ≤ 65536) from
  pub places : p.places.items ≡ all_places starts from
  pub regions : p.regions.items ≡ all_regions starts (objects from)

abbrev pub FindsAll : SpaceState → List NewCell → Result Placements PlaceFail → SpaceState → Type 0
FindsAll old cells (Ok p) new = AreFound old cells p new
FindsAll old cells (Err (NoRoom none)) new = take_all old.base old.taken (objects cells) ≡ Err (Exhausted none.wanted none.largest)
FindsAll old cells (Err OutOfMemory) new = Unit {0}

-- where the extra run starts behind the runs of the objects
abbrev pub take_with : ℕ → List Bool → List Object → ℕ → Outcome (Option ℕ)
take_with base table objects pages = take_all base table objects >>= (λ cells. extra_start base cells.table pages)

-- the cells stand where their classes take the lowest free runs, one cell after another, and the extra run is free behind them
pub record ArePlaced (old : SpaceState) (from : List NewCell) (pages : ℕ) (taken : TakenRuns) (new : SpaceState) (now : List NewCell) : Type 0 where
  pub starts : List Starts
  pub each : length starts ≡ length from
  pub runs : take_all old.base old.taken (objects from) ≡ Ok (record { starts = starts; table = new.taken })
  pub extra : extra_start old.base new.taken pages ≡ Ok taken.extra
  pub base : new.base ≡ old.base
  pub few : All (λ c. length c.object.sections ≤ 65536) from
  pub cells : now ≡ all_in_places starts from
  pub regions : taken.regions.items ≡ all_regions starts (objects from)

abbrev pub PlacesAll : SpaceState → List NewCell → ℕ → Result TakenRuns PlaceFail → SpaceState → List NewCell → Type 0
PlacesAll old from pages (Ok taken) new now = ArePlaced old from pages taken new now
PlacesAll old from pages (Err (NoRoom none)) new now =
    (take_with old.base old.taken (objects from) pages ≡ Err (Exhausted none.wanted none.largest)) × (now ≡ from)
PlacesAll old from pages (Err OutOfMemory) new now = now ≡ from
