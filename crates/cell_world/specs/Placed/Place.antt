-- Which pages are free, and where the sections of new cells stand.
--     page_table w                          which pages the regions take
--     place_cell w c, place_all w cells     w with the cells' regions and starts
use Rattle.std.specs.Prelude.{ℕ, ◌+◌, ◌*◌, ◌/◌, ◌==◌, nat_lt, Bool, List, [], ◌∷◌, Some, None, Ok, Err, map, length, if◌then◌else◌}
use Rattle.std.specs.List.{list_any}
use Rattle.cell_num.specs.Limits.{page_size}
use Rattle.cell_object.specs.declared.object.Object.{Object}
use Rattle.cell_object.specs.declared.object.Section.{Section as ObjectSection}
use Rattle.cell_world.specs.declared.refusal.Refusal.TheVariants.{Exhausted}
use Rattle.cell_world.specs.World.{World, Cell, Region}
use Rattle.cell_num.specs.Lists.{upto}
use Rattle.cell_world.specs.Running.Memory.{covers}
use Rattle.cell_world.specs.Placed.Pages.{lowest_run, longest_run}
use Rattle.cell_world.specs.Placed.Layout.{sections_in, image_of, permission_of, places_in}
use Rattle.cell_world.specs.declared.layout.Starts.{Starts}
use Rattle.cell_world.specs.declared.layout.Class.TheVariants.{Text, ReadOnly, Writable}
use Rattle.cell_world.specs.declared.layout.Class.{Class}
use Rattle.cell_world.specs.Outcome.{Outcome, ◌>>=◌, each}

-- the page table: a page is taken where a region covers it
abbrev pub is_taken : World → ℕ → Bool
is_taken w page = list_any (λ r. covers r (w.base + page_size * page)) w.regions

abbrev pub page_table : World → List Bool
page_table w = map (is_taken w) (upto w.pages)

-- the region in its place by starts
abbrev pub with_region : Region → List Region → List Region
with_region r [] = r ∷ []
with_region r (s ∷ regions) = if nat_lt r.start s.start then r ∷ s ∷ regions else s ∷ with_region r regions

-- where the lowest free run of n pages starts, or the refusal
abbrev pub start_of_run : World → ℕ → Outcome ℕ
start_of_run w n =
    elim (lowest_run (page_table w) n) [
      | None ↦ Err (Exhausted n (longest_run (page_table w)))
      | Some page ↦ Ok (w.base + page_size * page)
    ]

-- the world with the run of a class, and where the run starts
pub record Placing : Type 0 where
  pub world : World
  pub start : ℕ

abbrev pub with_run : World → Class → List ObjectSection → ℕ → Placing
with_run w class sections start =
    let r : Region = record { start = start; permission = permission_of class; bytes = image_of sections } in
    record { world = record w { regions = with_region r w.regions }; start = start }

-- a class that has no section takes no run
abbrev pub place_sections : World → Class → List ObjectSection → Outcome Placing
place_sections w class [] = Ok (record { world = w; start = 0 })
place_sections w class (s ∷ rest) =
    start_of_run w (length (image_of (s ∷ rest)) / page_size) >>= (λ start. Ok (with_run w class (s ∷ rest) start))

abbrev pub place_class : World → Class → Object → Outcome Placing
place_class w class object = place_sections w class (sections_in class object)

abbrev pub with_places : ℕ → Starts → Cell → Cell
with_places number starts c =
    if c.id.0 == number then record c { placed = record c.placed { places = places_in starts c.object } } else c

-- text, read-only and writable sections, each class in the lowest run that is free by then
abbrev pub place_cell : World → Cell → Outcome World
place_cell w c = do
  text ← place_class w Text c.object
  read_only ← place_class text.world ReadOnly c.object
  writable ← place_class read_only.world Writable c.object
  let starts : Starts = record { text = text.start; read_only = read_only.start; writable = writable.start } in
      Ok (record writable.world { cells = map (with_places c.id.0 starts) w.cells })

abbrev pub place_all : World → List Cell → Outcome World
place_all w cells = each place_cell w cells
