-- The machine that the parts are, and what holds of every one.
--     world_of m              the machine that m is
--     keys_of cells           the sections of the cells, by their keys
--     soft_of cells           those of the cells that have a WEAK symbol
--     field_bytes cells       where the fields of the cells begin, and how many bytes each of them has
--     AreParts m              the parts are those of one machine, also while it isn't coherent: they have its cells, its page table and
--                             its sections, and the sealed bytes are those of the fields
--     IsWhole m               and the machine is coherent, also while an undo is begun
--     IsSound m               and none is begun
use Rattle.std.specs.Prelude.{ℕ, ◌≡◌, ◌≤◌, ◌-◌, ◌*◌, ◌^◌, List, None, filter, flat_map, map, not}
use Rattle.cell_num.specs.Limits.{page_size}
use Rattle.cell_num.specs.Kinds.{width_of}
use Rattle.cell_num.specs.declared.ids.CellId.{CellId}
use Rattle.cell_num.specs.declared.ids.SecKey.{SecKey}
use Rattle.cell_object.specs.Parts.{has_no_weak}
use Rattle.cell_world.specs.declared.state.LinkRow.{LinkRow}
use Rattle.cell_world.specs.declared.state.Namespace.{Namespace}
use Rattle.cell_world.specs.declared.state.NewCell.{NewCell}
use Rattle.cell_world.specs.World.{World, Cell, key_of}
use Rattle.cell_world.specs.Coherent.{IsCoherent}
use Rattle.cell_world.specs.Linked.Field.{fields_of, place_of}
use Rattle.cell_world.specs.Placed.Place.{page_table}
use Rattle.cell_mem.specs.State.{MemoryState}
use Rattle.cell_space.specs.Joined.{AreJoined, cells_of}
use Rattle.cell_task.specs.State.{TasksState}
use Rattle.cell_commit.specs.Seals.{seal_table}
use Rattle.cell_machine.specs.declared.machine.Machine.{Machine}

-- a machine by what its parts are seen as
abbrev pub world_by : MemoryState → List Namespace → List Cell → List LinkRow → TasksState → ℕ → ℕ → World
world_by memory namespaces cells links tasks next swaps =
    record {
      base = memory.base;
      pages = memory.pages;
      namespaces = namespaces;
      cells = cells;
      links = links;
      regions = memory.regions;
      tasks = tasks.tasks;
      next_cell = next;
      next_task = tasks.next;
      swaps = swaps;
    }

abbrev pub world_of : Machine → World
world_of m =
    world_by m.memory m.spaces.namespaces (cells_of m.cells.items m.spaces.cells) m.graph.rows m.tasks m.next m.swaps

abbrev pub section_keys : NewCell → List SecKey
section_keys c = map (λ s. key_of c.id.0 s.number) c.object.sections

abbrev pub keys_of : List NewCell → List SecKey
keys_of cells = flat_map section_keys cells

abbrev pub soft_of : List NewCell → List CellId
soft_of cells = map (λ c. c.id) (filter (λ c. not (has_no_weak c.object)) cells)

abbrev pub own_field_bytes : NewCell → List (ℕ × ℕ)
own_field_bytes c = map (λ f. (place_of c f, width_of f.kind)) (fields_of c.object)

abbrev pub field_bytes : List NewCell → List (ℕ × ℕ)
field_bytes cells = flat_map own_field_bytes cells

-- the parts have the same cells, pages, sections and fields, and it is known which cells have a WEAK symbol
pub record AreParts (m : Machine) : Type 0 where
  pub joined : AreJoined m.cells.items m.spaces.cells
  pub table : m.space.taken ≡ page_table (world_of m)
  pub base : m.space.base ≡ m.memory.base
  pub soft : m.soft.items ≡ soft_of m.cells.items
  pub sections : m.graph.sections ≡ keys_of m.cells.items
  pub seals : m.memory.sealed ≡ seal_table m.memory.base (page_size * m.memory.pages) (field_bytes m.cells.items)
  pub patches : m.memory.patches ≤ 2 ^ 64 - 1
  pub maps : m.memory.maps ≤ 2 ^ 64 - 1

pub record IsWhole (m : Machine) : Type 0 where
  pub coherent : IsCoherent (world_of m)
  pub parts : AreParts m
  pub open parts use *

pub record IsSound (m : Machine) : Type 0 where
  pub coherent : IsCoherent (world_of m)
  pub parts : AreParts m
  pub open parts use *
  pub undo : m.memory.undo ≡ None
