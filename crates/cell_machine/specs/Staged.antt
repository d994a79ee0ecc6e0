-- What has been staged for a machine: new cells in their places, not linked yet, and what linking gives them.
--     all_attached cells          the cells, which take part in names under their own
--     all_fields w cells          what the fields of the cells hold, cell by cell
--     arrivals cells names        what the new cells are called, by their names; what they hold weakly is in their objects
--     AreLinkedIn u new cells space regions fields rows   these are the new cells in their places in u, the space with their runs, and
--                                 their regions, fields and links
--     IsStaged u new s            that is what is staged, with the names of the cells
--     AreNewIn u w cells          in w the cells stand behind those of u, and all can be linked
--     ComesTo w cells changed rows next   linking w writes what changes and the fields of the new cells
--     IsLike v m                  m is v, where cells may stand aside
--     IsCommitted m mid links newcomers s n  n has the cells of m and those that are staged
use Rattle.std.specs.Prelude.{◌≡◌, ◌+◌, List, [], ◌∷◌, ◌++◌, All, None, Ok, flat_map, fold, length, map}
use Rattle.cell_world.specs.declared.layout.Starts.{Starts}
use Rattle.cell_world.specs.declared.state.LinkRow.{LinkRow}
use Rattle.cell_world.specs.declared.state.NewCell.{NewCell}
use Rattle.cell_world.specs.World.{Alias, World, Cell, Region, attached}
use Rattle.cell_world.specs.declared.state.Standing.TheVariants.{Attached}
use Rattle.cell_world.specs.Coherent.{IsCoherent, IsReady}
use Rattle.cell_world.specs.Linked.Fit.{first_misfit}
use Rattle.cell_world.specs.Gather.{fresh_cells}
use Rattle.cell_world.specs.Names.{names_of, weak_definitions_of}
use Rattle.cell_world.specs.Placed.Place.{page_table}
use Rattle.cell_world.specs.Linked.Relink.{Patch, patched, patches_of}
use Rattle.cell_world.specs.Linked.Target.{targets_of}
use Rattle.cell_lemmas.specs.Grown.{links_from}
use Rattle.cell_lemmas.specs.Linkable.{IsLinkable}
use Rattle.cell_lemmas.specs.Loads.{all_regions, objects_of, placed_after, placed_cells, take_all}
use Rattle.cell_link.specs.declared.value.FieldValue.{FieldValue}
use Rattle.cell_link.specs.Linked.{field_values}
use Rattle.cell_mem.specs.State.{MemoryState}
use Rattle.cell_place.specs.Space.{SpaceState}
use Rattle.cell_commit.specs.Commit.{fields_written}
use Rattle.cell_space.specs.declared.cell.SpaceCell.{SpaceCell}
use Rattle.cell_space.specs.Joined.{placed_of}
use Rattle.cell_machine.specs.declared.machine.Machine.{Machine}
use Rattle.cell_machine.specs.declared.staged.Staged.{Staged}
use Rattle.cell_machine.specs.Machine.{keys_of, soft_of}

-- cells under their own names
abbrev pub all_attached : List NewCell → List Cell
all_attached cells = map attached cells

abbrev pub all_fields : World → List Cell → List FieldValue
all_fields w cells = flat_map (λ c. field_values c.placed (targets_of w c)) cells

abbrev pub arrival : NewCell → List Alias → SpaceCell
arrival c names = record { cell = c.id; ns = c.ns; stem = c.stem; state = Attached; names = names; weak = weak_definitions_of c.object }

abbrev pub arrivals : List NewCell → List (List Alias) → List SpaceCell
arrivals [] names = []
arrivals (c ∷ cells) [] = []
arrivals (c ∷ cells) (names ∷ rest) = arrival c names ∷ arrivals cells rest

-- the new cells as they were gathered have no places yet
pub record AreLinkedIn (u : World) (new : List Cell) (in_places : List NewCell) (space : SpaceState) (own : List Region) (values : List FieldValue) (links : List LinkRow) : Type 0 where
  pub starts : List Starts
  pub each : length starts ≡ length new
  pub runs : take_all u.base (page_table u) (objects_of new) ≡ Ok (record { starts = starts; table = space.taken })
  pub base : space.base ≡ u.base
  pub cells : in_places ≡ map placed_of (placed_cells starts new)
  pub regions : own ≡ all_regions starts (objects_of new)
  pub fit : first_misfit (placed_after starts u new) (placed_cells starts new) ≡ None
  pub fields : values ≡ all_fields (placed_after starts u new) (placed_cells starts new)
  pub rows : links ≡ links_from (placed_after starts u new) (placed_cells starts new)

pub record IsStaged (u : World) (new : List Cell) (s : Staged) : Type 0 where
  pub linked : AreLinkedIn u new s.cells.items s.space s.regions.items s.fields.items s.rows.items
  pub open linked use *
  pub attached : All (λ c. c.standing ≡ Attached) new
  pub names : s.names.items ≡ map names_of new

pub record AreNewIn (u w : World) (cells : List Cell) : Type 0 where
  pub linkable : IsLinkable w
  pub fresh : fresh_cells u.next_cell w ≡ cells

-- the links are those that others have by then, and those of the new cells
pub record ComesTo (w : World) (cells : List Cell) (changed : List Patch) (rows : List LinkRow) (next : World) : Type 0 where
  pub ready : IsReady w
  pub coherent : IsCoherent next
  pub is : next ≡ record w { regions = map (λ r. fold patched r (changed ++ flat_map (patches_of w) cells)) w.regions; links = rows ++ links_from w cells }

-- m has the regions, the places and the numbers of v, where cells may have other standings
pub record IsLike (v : World) (m : Machine) : Type 0 where
  pub base : m.memory.base ≡ v.base
  pub pages : m.memory.pages ≡ v.pages
  pub regions : m.memory.regions ≡ v.regions
  pub cells : m.cells.items ≡ map placed_of v.cells
  pub next : m.next ≡ v.next_cell

-- mid is the memory with the new regions before the fields of the new cells are written
pub record IsCommitted (m : Machine) (mid : MemoryState) (links : List LinkRow) (newcomers : List SpaceCell) (s : Staged) (n : Machine) : Type 0 where
  pub cells : n.cells.items ≡ m.cells.items ++ s.cells.items
  pub soft : n.soft.items ≡ m.soft.items ++ soft_of s.cells.items
  pub next : n.next ≡ m.next + length s.cells.items
  pub swaps : n.swaps ≡ m.swaps
  pub namespaces : n.spaces.namespaces ≡ m.spaces.namespaces
  pub known : n.spaces.cells ≡ m.spaces.cells ++ newcomers
  pub space : n.space ≡ s.space
  pub memory : n.memory ≡ fields_written mid s.fields.items
  pub sections : n.graph.sections ≡ m.graph.sections ++ keys_of s.cells.items
  pub rows : n.graph.rows ≡ links ++ s.rows.items
  pub tasks : n.tasks ≡ m.tasks
