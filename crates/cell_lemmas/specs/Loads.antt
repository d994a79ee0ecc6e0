-- New cells after the others: the runs that their classes take, and the machine with them before it is linked.
--     take_runs base table object   where the classes start, each in the lowest run that is free by then, and the page table with them
--     regions_at starts object      the classes' regions there
--     take_all base table objects   where the classes of each object start, one object after another
--     placed_after starts w cells   the machine with the cells in their places
use Rattle.std.specs.Prelude.{ℕ, ◌+◌, ◌*◌, ◌/◌, Bool, true, List, [], ◌∷◌, ◌++◌, Some, None, Ok, Err, length, map}
use Rattle.cell_num.specs.Limits.{page_size}
use Rattle.cell_object.specs.declared.object.Object.{Object}
use Rattle.cell_object.specs.declared.object.Section.{Section as ObjectSection}
use Rattle.cell_world.specs.declared.refusal.Refusal.TheVariants.{Exhausted}
use Rattle.cell_world.specs.World.{World, Cell, Region}
use Rattle.cell_world.specs.Placed.Layout.{sections_in, image_of, permission_of, places_in, run_size}
use Rattle.cell_world.specs.declared.layout.Starts.{Starts}
use Rattle.cell_world.specs.declared.layout.Class.TheVariants.{Text, ReadOnly, Writable}
use Rattle.cell_world.specs.declared.layout.Class.{Class}
use Rattle.cell_world.specs.Placed.Pages.{lowest_run, longest_run, filled}
use Rattle.cell_world.specs.Placed.Place.{with_region}
use Rattle.cell_world.specs.Outcome.{Outcome, ◌>>=◌}

-- where a run starts, and the page table with it
pub record Taken : Type 0 where
  pub start : ℕ
  pub table : List Bool

-- n pages in the lowest free run
abbrev pub take_run : ℕ → List Bool → ℕ → Outcome Taken
take_run base table n =
    elim (lowest_run table n) [
      | None ↦ Err (Exhausted n (longest_run table))
      | Some page ↦ Ok (record { start = base + page_size * page; table = filled table page n true })
    ]

abbrev pub take_for : ℕ → List Bool → List ObjectSection → Outcome Taken
take_for base table [] = Ok (record { start = 0; table = table })
take_for base table (s ∷ rest) = take_run base table (run_size (s ∷ rest) / page_size)

abbrev pub take_class : ℕ → List Bool → Class → Object → Outcome Taken
take_class base table class object = take_for base table (sections_in class object)

-- where the runs of all classes start, and the page table with them
pub record AllTaken : Type 0 where
  pub starts : Starts
  pub table : List Bool

abbrev pub take_runs : ℕ → List Bool → Object → Outcome AllTaken
take_runs base table object = do
  text ← take_class base table Text object
  read_only ← take_class base text.table ReadOnly object
  writable ← take_class base read_only.table Writable object
  let starts : Starts = record { text = text.start; read_only = read_only.start; writable = writable.start } in
      Ok (record { starts = starts; table = writable.table })

-- the region of a class that has a section
abbrev pub run_region : ℕ → Class → List ObjectSection → List Region
run_region start class [] = []
run_region start class (s ∷ rest) =
    record { start = start; permission = permission_of class; bytes = image_of (s ∷ rest) } ∷ []

abbrev pub regions_at : Starts → Object → List Region
regions_at starts object =
    run_region starts.text Text (sections_in Text object)
    ++ run_region starts.read_only ReadOnly (sections_in ReadOnly object)
    ++ run_region starts.writable Writable (sections_in Writable object)

abbrev pub with_run_of : ℕ → Class → List ObjectSection → List Region → List Region
with_run_of start class [] regions = regions
with_run_of start class (s ∷ rest) regions =
    with_region (record { start = start; permission = permission_of class; bytes = image_of (s ∷ rest) }) regions

abbrev pub with_class : ℕ → Class → Object → List Region → List Region
with_class start class object regions = with_run_of start class (sections_in class object) regions

-- the regions with those of the classes
abbrev pub with_classes : Starts → Object → List Region → List Region
with_classes starts object regions =
    with_class starts.writable Writable object
    (with_class starts.read_only ReadOnly object (with_class starts.text Text object regions))

-- where the classes of each cell start, and the page table with all runs
pub record ManyTaken : Type 0 where
  pub starts : List Starts
  pub table : List Bool

abbrev pub take_all : ℕ → List Bool → List Object → Outcome ManyTaken
take_all base table [] = Ok (record { starts = []; table = table })
take_all base table (o ∷ objects) = do
  first ← take_runs base table o
  rest ← take_all base first.table objects
  Ok (record { starts = first.starts ∷ rest.starts; table = rest.table })

-- the regions with those of the classes of each object
abbrev pub with_all : List Starts → List Object → List Region → List Region
with_all [] objects regions = regions
with_all (s ∷ starts) [] regions = regions
with_all (s ∷ starts) (o ∷ objects) regions = with_all starts objects (with_classes s o regions)

-- the regions of the classes of each object
abbrev pub all_regions : List Starts → List Object → List Region
all_regions [] objects = []
all_regions (s ∷ starts) [] = []
all_regions (s ∷ starts) (o ∷ objects) = regions_at s o ++ all_regions starts objects

abbrev pub objects_of : List Cell → List Object
objects_of cells = map (λ c. c.object) cells

-- a cell with its places
abbrev pub placed_cell : Starts → Cell → Cell
placed_cell starts c = record c { placed = record c.placed { places = places_in starts c.object } }

-- each cell with its places
abbrev pub placed_cells : List Starts → List Cell → List Cell
placed_cells [] cells = cells
placed_cells (s ∷ starts) [] = []
placed_cells (s ∷ starts) (c ∷ cells) = placed_cell s c ∷ placed_cells starts cells

abbrev pub placed_after : List Starts → World → List Cell → World
placed_after starts w cells =
    record w {
      cells = w.cells ++ placed_cells starts cells;
      next_cell = w.next_cell + length cells;
      regions = with_all starts (objects_of cells) w.regions;
    }
