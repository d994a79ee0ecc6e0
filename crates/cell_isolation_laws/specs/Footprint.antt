-- What of a machine a namespace and those above it are: another namespace's commands leave it alone.
--     is_visible w ns c      the cell is attached in a namespace of the chain
--     task_starts w ns t     where the regions of these cells start, and the task's stack
--     footprint w ns         these cells with their places and aliases, their links and regions, and all live tasks with their stacks
use Rattle.std.specs.Prelude.{ℕ, Bool, ◌&&◌, List, [], ◌∷◌, ◌++◌, filter, flat_map, map}
use Rattle.cell_num.specs.Lists.{holds}
use Rattle.cell_world.specs.declared.state.LinkRow.{LinkRow}
use Rattle.cell_world.specs.World.{World, Cell, Region, Task, is_attached}
use Rattle.cell_world.specs.Answer.{numbers_of}
use Rattle.cell_world.specs.Names.{chain}
use Rattle.cell_world.specs.Commands.UnloadCommand.{starts_of}
use Rattle.cell_isolation_laws.specs.Touches.{regions_from}

pub record Footprint : Type 0 where
  pub cells : List Cell
  pub links : List LinkRow
  pub regions : List Region
  pub tasks : List Task
  pub stacks : List Region

abbrev pub is_visible : World → ℕ → Cell → Bool
is_visible w ns c = is_attached c.standing && holds (chain w.namespaces ns) c.ns

abbrev pub links_of_cells : List Cell → List LinkRow → List LinkRow
links_of_cells cells links = filter (λ l. holds (numbers_of cells) l.user.cell.0) links

abbrev pub footprint_of : World → List Cell → Footprint
footprint_of w cells = record {
  cells = cells;
  links = links_of_cells cells w.links;
  regions = regions_from (flat_map starts_of cells) w.regions;
  tasks = w.tasks;
  stacks = regions_from (map (λ t. t.stack) w.tasks) w.regions;
}

abbrev pub footprint : World → ℕ → Footprint
footprint w ns = footprint_of w (filter (is_visible w ns) w.cells)

abbrev pub task_starts : World → ℕ → Task → List ℕ
task_starts w ns t = flat_map starts_of (filter (is_visible w ns) w.cells) ++ t.stack ∷ []
