-- What the removal of cells leaves of the machine.
--     CanGo m cells                the cells can be taken away: no other cell has a link into them
--     IsTaken old cells new        they are gone from each part of the machine
--     IsRemoved old cells new      the machine without the cells; names, pages, sections and seals are those of the cells that stay
use Rattle.std.specs.Prelude.{◌≡◌, ◌+◌, ◌*◌, All, IsTrue, List, None, false, filter, map, nat_lt, not}
use Rattle.cell_num.specs.Limits.{page_size}
use Rattle.cell_num.specs.Lists.{each_pair, holds}
use Rattle.cell_graph.specs.Removal.{is_used_outside, links_without, sections_without}
use Rattle.cell_machine.specs.Staged.{all_attached}
use Rattle.cell_mem.specs.Index.{IsLaid}
use Rattle.cell_space.specs.Spaces.{HasCell}
use Rattle.cell_unload.specs.Unmapped.{CanLeave, IsTabled, lost_starts, without_regions}
use Rattle.cell_num.specs.declared.ids.CellId.{CellId}
use Rattle.cell_commit.specs.Seals.{seal_table}
use Rattle.cell_machine.specs.declared.machine.Machine.{Machine}
use Rattle.cell_machine.specs.Machine.{field_bytes, keys_of, soft_of, world_of}
use Rattle.cell_space.specs.Joined.{AreJoined}
use Rattle.cell_world.specs.Placed.Place.{page_table}
use Rattle.cell_world.specs.Commands.UnloadCommand.{without_cells}

pub record CanGo (m : Machine) (cells : List CellId) : Type 0 where
  pub places : All (λ c. IsTrue (each_pair (λ a b. nat_lt a.section b.section) c.places)) m.cells.items
  pub tabled : IsTabled m.memory m.space
  pub regions : CanLeave m.memory (lost_starts (all_attached m.cells.items) (map (λ c. c.0) cells))
  pub named : All (λ c. HasCell m.spaces c.0) cells
  pub rising : IsTrue (each_pair nat_lt (map (λ c. c.0) cells))
  pub unused : is_used_outside cells m.graph.rows ≡ false

pub record IsTaken (old : Machine) (cells : List CellId) (new : Machine) : Type 0 where
  pub laid : IsLaid old.memory.base old.memory.regions (old.memory.base + page_size * old.memory.pages)
  pub memory : new.memory ≡ without_regions old.memory (lost_starts (all_attached old.cells.items) (map (λ c. c.0) cells))
  pub tabled : IsTabled new.memory new.space
  pub names : new.spaces.cells ≡ filter (λ c. not (holds (map (λ d. d.0) cells) c.cell.0)) old.spaces.cells
  pub namespaces : new.spaces.namespaces ≡ old.spaces.namespaces
  pub rows : new.graph.rows ≡ links_without cells old.graph.rows
  pub sections : new.graph.sections ≡ sections_without cells old.graph.sections
  pub left : new.cells.items ≡ filter (λ c. not (holds (map (λ d. d.0) cells) c.id.0)) old.cells.items
  pub soft : new.soft.items ≡ filter (λ c. not (holds (map (λ d. d.0) cells) c.0)) old.soft.items
  pub next : new.next ≡ old.next
  pub swaps : new.swaps ≡ old.swaps
  pub tasks : new.tasks ≡ old.tasks

pub record IsRemoved (old : Machine) (cells : List CellId) (new : Machine) : Type 0 where
  pub world : world_of new ≡ without_cells (world_of old) (map (λ c. c.0) cells)
  pub joined : AreJoined new.cells.items new.spaces.cells
  pub table : new.space.taken ≡ page_table (world_of new)
  pub base : new.space.base ≡ new.memory.base
  pub soft : new.soft.items ≡ soft_of new.cells.items
  pub sections : new.graph.sections ≡ keys_of new.cells.items
  pub seals : new.memory.sealed ≡ seal_table new.memory.base (page_size * new.memory.pages) (field_bytes new.cells.items)
  pub undo : new.memory.undo ≡ None
  pub patches : new.memory.patches ≡ old.memory.patches
  pub maps : new.memory.maps ≡ old.memory.maps
