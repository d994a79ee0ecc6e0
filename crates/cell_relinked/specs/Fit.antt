-- Cells in their places.
--     machine base pages spaces cells     the machine with these cells, of which nothing else counts
--     start_among places section          where the section of that number stands
--     placed_in objects c                 the cell with its object, in its places
--     IsFit objects c                     the cell has its object, and its addresses are numbers of 64 bits
use Rattle.std.specs.Prelude.{◌<◌, ◌^◌, ◌==◌, ℕ, All, List, [], find, length, option_map, unwrap_or}
use Rattle.cell_object.specs.declared.object.Object.{Object}
use Rattle.cell_placed.specs.Low.{IsLow}
use Rattle.cell_world.specs.Coherent.{IsLoadable}
use Rattle.cell_world.specs.World.{Cell, World}
use Rattle.cell_world.specs.declared.state.Namespace.{Namespace}
use Rattle.cell_world.specs.declared.state.NewCell.{NewCell}
use Rattle.cell_world.specs.declared.state.SecPlace.{SecPlace}
use Rattle.cell_described.specs.Faults.{object_at}
use Rattle.cell_described.specs.Standing.{Stand}
use Rattle.cell_described.specs.declared.cell.DescribedCell.{DescribedCell}

abbrev pub machine : ℕ → ℕ → List Namespace → List Cell → World
machine base pages namespaces cells =
    record {
      base = base;
      pages = pages;
      namespaces = namespaces;
      cells = cells;
      links = [];
      regions = [];
      tasks = [];
      next_cell = 0;
      next_task = 0;
      swaps = 0;
    }

-- 0 where there is no such section
abbrev pub start_among : List SecPlace → ℕ → ℕ
start_among places section = unwrap_or (option_map (λ place. place.start) (find (λ place. place.section == section) places)) 0

abbrev pub placed_in : List Object → DescribedCell → NewCell
placed_in objects c =
    record { id = c.id; ns = c.ns; stem = c.stem; file = c.file; object = object_at objects c.object; places = c.places }

pub record IsFit (objects : List Object) (c : DescribedCell) : Type 0 where
  pub there : c.object < length objects
  pub loadable : IsLoadable (object_at objects c.object)
  pub low : IsLow (placed_in objects c)
  pub starts : All (λ p. p.start < 2 ^ 63) c.places

-- the cell's sections stand in the space
abbrev pub IsInSpace : ℕ → ℕ → List Object → DescribedCell → Type 0
IsInSpace base pages objects c = Stand (base, pages) (object_at objects c.object).sections c.places
