-- What adding staged cells makes of a machine.
--     IsPlanned u changed rows s      the cells were staged for u; linking writes these fields of others too, whose links are these then
--     IsReadyToAdd m changed rows s   they were staged for the machine m
--     IsPrepared cells names p        what the staged cells are called, the numbers of their sections, and which have a WEAK symbol
--     memory_with m regions patches   the memory with new regions, and fields of others written
--     HasRoomFor m s p binds          there is room for all that is added, and for so many links of others
--     CanChange m s patches links     these fields of others may be written, and these links of others change
--     IsCommittable m s p patches links   what the calls of the commit ask
--     IsAdded old patches rows s newcomers new   the machine with the staged cells, in which others have these links
use Rattle.std.specs.Prelude.{◌≡◌, ◌≤◌, ◌+◌, ℕ, List, ◌++◌, None, All, Contains, length, map, vec_len, vec_capacity}
use Rattle.cell_num.specs.declared.ids.CellId.{CellId}
use Rattle.cell_world.specs.declared.state.LinkRow.{LinkRow}
use Rattle.cell_world.specs.declared.state.NewCell.{NewCell}
use Rattle.cell_world.specs.World.{Alias, World, Cell, Region}
use Rattle.cell_world.specs.Coherent.{IsCoherent}
use Rattle.cell_world.specs.Linked.Relink.{Patch}
use Rattle.cell_lemmas.specs.Loads.{placed_after, placed_cells}
use Rattle.cell_space.specs.declared.cell.SpaceCell.{SpaceCell}
use Rattle.cell_commit.specs.Cells.{AreAbove, AreFree, arrived, name_count, section_count}
use Rattle.cell_commit.specs.Commit.{AreRoom, IsMapped, all_mapped, fields_patched}
use Rattle.cell_commit.specs.declared.wiring.Rewiring.{Rewiring}
use Rattle.cell_commit.specs.declared.sections.CellSections.{CellSections}
use Rattle.cell_commit.specs.Rewiring.{IsRewiring, backs as backs_of}
use Rattle.cell_lemmas.specs.LinkSteps.{LinkStep, afters}
use Rattle.cell_graph.specs.Order.{Rises, below_link}
use Rattle.cell_link.specs.declared.value.FieldValue.{FieldValue}
use Rattle.cell_mem.specs.State.{HasWrites, MemoryState}
use Rattle.cell_machine.specs.declared.machine.Machine.{Machine}
use Rattle.cell_machine.specs.declared.staged.Staged.{Staged}
use Rattle.cell_machine.specs.Machine.{AreParts, keys_of, soft_of, world_of}
use Rattle.cell_machine.specs.Staged.{AreNewIn, ComesTo, IsCommitted, IsLike, IsStaged, arrivals}
use Rattle.cell_load.specs.declared.prepared.Prepared.{Prepared}

pub record IsPlanned (u : World) (changed : List Patch) (rows : List LinkRow) (s : Staged) : Type 0 where
  pub new : List Cell
  pub staged : IsStaged u new s
  pub there : AreNewIn u (placed_after staged.starts u new) (placed_cells staged.starts new)
  pub after : World
  pub comes : ComesTo (placed_after staged.starts u new) (placed_cells staged.starts new) changed rows after

-- the machine was coherent before cells were put aside
pub record IsReadyToAdd (m : Machine) (changed : List Patch) (rows : List LinkRow) (s : Staged) : Type 0 where
  pub before : World
  pub coherent : IsCoherent before
  pub like : IsLike before m
  pub parts : AreParts m
  pub undo : m.memory.undo ≡ None
  pub planned : IsPlanned (world_of m) changed rows s
  pub open planned use *

-- a cell's number, and those of its sections
abbrev pub numbers_in : NewCell → CellId × List ℕ
numbers_in c = (c.id, map (λ s. s.number) c.object.sections)

abbrev pub listed : CellSections → CellId × List ℕ
listed s = (s.cell, s.sections.items)

pub record IsPrepared (cells : List NewCell) (names : List (List Alias)) (p : Prepared) : Type 0 where
  pub newcomers : map arrived p.newcomers.items ≡ arrivals cells names
  pub sections : map listed p.sections.items ≡ map numbers_in cells
  pub soft : p.soft.items ≡ soft_of cells

-- room for all that the staged cells add, and for links of others
pub record HasRoomFor (m : Machine) (s : Staged) (p : Prepared) (binds : ℕ) : Type 0 where
  pub cells : vec_len m.cells + vec_len s.cells ≤ vec_capacity m.cells
  pub soft : vec_len m.soft + vec_len p.soft ≤ vec_capacity m.soft
  pub regions : length s.regions.items ≤ m.memory.spare
  pub sections : section_count p.sections.items ≤ m.graph.spare_sections
  pub rows : binds + length s.rows.items ≤ m.graph.spare_rows
  pub newcomers : length p.newcomers.items ≤ m.spaces.spare_cells
  pub names : length p.newcomers.items + name_count p.newcomers.items ≤ m.spaces.spare_names

abbrev pub memory_with : MemoryState → List Region → List FieldValue → MemoryState
memory_with m regions patches = fields_patched (all_mapped m regions) patches

-- the links of others go from their steps' rows before to those after, which join sections that are or come
pub record CanChange (m : Machine) (s : Staged) (patches : List FieldValue) (links : Rewiring) : Type 0 where
  pub mapped : All (IsMapped (all_mapped m.memory s.regions.items)) patches
  pub steps : List LinkStep
  pub rewires : IsRewiring m.graph.rows links.unbinds.items links.binds.items links.moves.items steps
  pub backs : links.backs.items ≡ backs_of steps
  pub present : All (λ r. Contains (m.graph.sections ++ keys_of s.cells.items) r.user × Contains (m.graph.sections ++ keys_of s.cells.items) r.target) (afters steps)

pub record IsCommittable (m : Machine) (s : Staged) (p : Prepared) (patches : List FieldValue) (links : Rewiring) : Type 0 where
  pub sections : map listed p.sections.items ≡ map numbers_in s.cells.items
  pub soft : p.soft.items ≡ soft_of s.cells.items
  pub room : HasRoomFor m s p (length links.binds.items)
  pub regions : AreRoom m.memory s.regions.items
  pub mapped : All (IsMapped (all_mapped m.memory s.regions.items)) s.fields.items
  pub undo : HasWrites m.memory (length patches + length s.fields.items)
  pub change : CanChange m s patches links
  pub above : AreAbove m.graph.sections p.sections.items
  pub present : All (λ r. Contains (m.graph.sections ++ keys_of s.cells.items) r.user × Contains (m.graph.sections ++ keys_of s.cells.items) r.target) s.rows.items
  pub rise : Rises below_link (afters change.steps ++ s.rows.items)
  pub free : AreFree m.spaces.namespaces m.spaces.cells p.newcomers.items
  pub next : m.next + length s.cells.items ≤ 65536

-- with other room, into which the new regions are mapped
pub record IsAdded (old : Machine) (patches : List FieldValue) (rows : List LinkRow) (s : Staged) (newcomers : List SpaceCell) (new : Machine) : Type 0 where
  pub spare : ℕ
  pub is : IsCommitted old (memory_with (record old.memory { spare = spare }) s.regions.items patches) rows newcomers s new
