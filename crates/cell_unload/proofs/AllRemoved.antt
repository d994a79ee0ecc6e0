-- What the parts of the machine are once the cells have gone from each of them.
use Rattle.std.proofs.Common.{◌≡◌, refl, sym, ◌∙◌, ap, ap₂, subst, ℕ, ◌*◌, Bool, true, false, not, true≢false, cond, ◌&&◌, ◌||◌, List, [], ◌∷◌, ◌++◌, length, map}
use Rattle.std.specs.Prelude.{◌==◌, All, IsTrue, filter, flat_map, is_some, nat_lt, slice_index_or}
use Rattle.std.proofs.lemmas.Bool.{eqb-true, eq-eqb}
use Rattle.cell_num.specs.Lists.{In, each_pair, holds}
use Rattle.cell_object.specs.Parts.{has_no_weak}
use Rattle.cell_num.proofs.Sublists.{map_filter}
use Rattle.cell_lemmas.proofs.Naming.Lookups.{filter_swap}
use Rattle.cell_num.proofs.Elements.{In-All, In-map, any-Has, find_there, map-In, none-In}
use Rattle.cell_commit.specs.Seals.{seal_table}
use Rattle.cell_graph.specs.Removal.{is_listed, is_outside_use, is_used_outside, links_without, sections_without}
use Rattle.cell_machine.specs.Machine.{IsSound, field_bytes, keys_of, section_keys, soft_of, world_of}
use Rattle.cell_machine.specs.Staged.{all_attached}
use Rattle.cell_machine.specs.declared.machine.Machine.{Machine}
use Rattle.cell_mem.specs.State.{MemoryState}
use Rattle.cell_num.specs.declared.ids.CellId.{CellId}
use Rattle.cell_num.specs.declared.ids.SecKey.{SecKey}
use Rattle.cell_object.specs.declared.object.Section.{Section as ObjectSection}
use Rattle.cell_space.specs.Machine.{called}
use Rattle.cell_space.specs.Named.{is_numbered}
use Rattle.cell_space.specs.Spaces.{HasCell}
use Rattle.cell_space.specs.declared.cell.SpaceCell.{SpaceCell}
use Rattle.cell_machine.proofs.Looked.{cell_low}
use Rattle.cell_space.specs.Joined.{cells_of, placed_of}
use Rattle.cell_space.proofs.Joined.{cells_are, joined_by}
use Rattle.cell_task.specs.State.{TasksState}
use Rattle.cell_world.specs.Answer.{numbers_of}
use Rattle.cell_world.specs.Commands.UnloadCommand.{starts_of, without_cells}
use Rattle.cell_world.specs.World.{Cell, Region, World, attached, key_of}
use Rattle.cell_world.specs.declared.state.LinkRow.{LinkRow}
use Rattle.cell_world.specs.declared.state.Namespace.{Namespace}
use Rattle.cell_world.specs.declared.state.NewCell.{NewCell}
use Rattle.cell_world.specs.declared.state.SecPlace.{SecPlace}
use Rattle.cell_unload.specs.Removed.{CanGo, IsRemoved, IsTaken}
use Rattle.cell_unload.specs.Unmapped.{CanLeave, IsTabled, lost_starts, without_regions}
use Rattle.cell_unload.proofs.Leaving.{lost_apart, lost_there}
use Rattle.cell_unload.proofs.Leftovers.{filter_equal, filter_flat, filter_mapped, holds_numbers}
use Rattle.cell_unload.proofs.SealsLeft.{seals_after, table_long}
use Rattle.cell_unload.proofs.Unmapping.{IsWell, regions_left, same_base, same_maps, same_pages, same_patches, no_undo}

abbrev pub numbers : List CellId → List ℕ
numbers cells = map (λ c. c.0) cells

-- the links

only_users : (user target : Bool) → (target && not user) ≡ false → not user ≡ not (user || target)
only_users true target h = refl
only_users false true h = absurd (true≢false h)
only_users false false h = refl

pub links_gone : (cells : List CellId) (rows : List LinkRow) → is_used_outside cells rows ≡ false
    → links_without cells rows ≡ filter (λ link. not (holds (numbers cells) link.user.cell.0 || holds (numbers cells) link.target.cell.0)) rows
links_gone cells rows h = filter_equal (λ (r : LinkRow). not (is_listed cells r.user)) (λ (r : LinkRow). not (holds (numbers cells) r.user.cell.0 || holds (numbers cells) r.target.cell.0)) rows (λ r i.
    only_users (is_listed cells r.user) (is_listed cells r.target) (none-In (is_outside_use cells) rows h r i)
    ∙ (ap (λ b. not (b || is_listed cells r.target)) (holds_numbers cells r.user.cell.0)
    ∙ ap (λ b. not (holds (numbers cells) r.user.cell.0 || b)) (holds_numbers cells r.target.cell.0)))

-- the sections

abbrev pub stay : List CellId → NewCell → Bool
stay cells c = not (holds (numbers cells) c.id.0)

-- those of the cells that stay are left
pub soft_left : (cells : List CellId) (present : List NewCell) → filter (λ (c : CellId). not (holds (numbers cells) c.0)) (soft_of present) ≡ soft_of (filter (stay cells) present)
soft_left cells present =
    sym (map_filter (λ (c : NewCell). c.id) (λ (c : CellId). not (holds (numbers cells) c.0)) (filter (λ (c : NewCell). not (has_no_weak c.object)) present))
    ∙ ap (map (λ (c : NewCell). c.id)) (filter_swap (stay cells) (λ (c : NewCell). not (has_no_weak c.object)) present)

pub keys_left : (cells : List CellId) (present : List NewCell) → sections_without cells (keys_of present) ≡ keys_of (filter (stay cells) present)
keys_left cells present = filter_flat (λ (k : SecKey). not (is_listed cells k)) (stay cells) section_keys (λ c k i. go c k (In-map (λ (s : ObjectSection). key_of c.id.0 s.number) c.object.sections k i)) present
  where
    go : (c : NewCell) (k : SecKey) → (s : ObjectSection) × In s c.object.sections × (k ≡ key_of c.id.0 s.number) → not (is_listed cells k) ≡ stay cells c
    go c k s = ap (λ (x : SecKey). not (is_listed cells x)) s.2 ∙ ap not (holds_numbers cells c.id.0)

-- the names

pub known_left : (cells : List CellId) (present : List Cell)
    → filter (λ c. not (holds (numbers cells) c.cell.0)) (map called present) ≡ map called (filter (λ c. not (holds (numbers cells) c.id.0)) present)
known_left cells present = filter_mapped (λ (c : SpaceCell). not (holds (numbers cells) c.cell.0)) called present

-- where regions are lost hangs on the places alone
lost_same : (cells : List Cell) (numbers : List ℕ) → lost_starts (all_attached (map placed_of cells)) numbers ≡ lost_starts cells numbers
lost_same [] numbers = refl
lost_same (c ∷ cells) numbers = go (holds numbers c.id.0) (lost_same cells numbers)
  where
    go : (b : Bool) → lost_starts (all_attached (map placed_of cells)) numbers ≡ lost_starts cells numbers
        → flat_map starts_of (cond b (attached c.placed ∷ filter (λ d. holds numbers d.id.0) (all_attached (map placed_of cells))) (filter (λ d. holds numbers d.id.0) (all_attached (map placed_of cells))))
        ≡ flat_map starts_of (cond b (c ∷ filter (λ d. holds numbers d.id.0) cells) (filter (λ d. holds numbers d.id.0) cells))
    go true rest = ap (λ (ns : List ℕ). starts_of c ++ ns) rest
    go false rest = rest

module _ (old : Machine) (sound : IsSound old) (cells : List CellId) where
  abbrev w : World
  w = world_of old

  abbrev starts : List ℕ
  starts = lost_starts (all_attached old.cells.items) (numbers cells)

  pub starts_are : lost_starts w.cells (numbers cells) ≡ starts
  starts_are = sym (lost_same w.cells (numbers cells)) ∙ ap (λ (cs : List NewCell). lost_starts (all_attached cs) (numbers cells)) sound.joined.placed

  pub can_leave : CanLeave old.memory starts
  can_leave =
      subst (λ (starts : List ℕ). CanLeave old.memory starts) starts_are
      (let can : CanLeave old.memory (lost_starts w.cells (numbers cells)) = record { there = lost_there w sound.coherent (numbers cells); apart = lost_apart w sound.coherent (numbers cells) } in can)

  pub tabled : IsTabled old.memory old.space
  tabled = record { base = sound.base; table = sound.table; aligned = sound.coherent.ready.space.aligned; most = sound.coherent.ready.space.most }

  -- the places of each cell rise
  pub places_rise : All (λ c. IsTrue (each_pair (λ a b. nat_lt a.section b.section) c.places)) old.cells.items
  places_rise = In-All (λ (c : NewCell). IsTrue (each_pair (λ (a b : SecPlace). nat_lt a.section b.section) c.places)) old.cells.items
      (λ c i. (cell_low old sound c i).ordered)

  -- the spaces have each of the cells
  pub all_named : All (λ c. IsTrue (holds (numbers_of w.cells) c.0)) cells → All (λ c. HasCell old.spaces c.0) cells
  all_named h j d l = named (slice_index_or cells j d).0 (h j d l)
    where
      named : (n : ℕ) → IsTrue (holds (numbers_of w.cells) n) → HasCell old.spaces n
      named n t =
          let y = any-Has (λ y. y == n) (numbers_of w.cells) t in
          let c = In-map (λ (x : Cell). x.id.0) w.cells y.0 y.1 in
          let i : In (called c.0) old.spaces.cells = subst (λ (xs : List SpaceCell). In (called c.0) xs) sound.joined.called (map-In called w.cells c.0 c.1) in
          ap is_some (find_there (is_numbered n) old.spaces.cells (called c.0) i (eq-eqb c.0.id.0 n (sym c.2 ∙ eqb-true y.0 n y.2))).1

  pub can_go : IsTrue (each_pair nat_lt (numbers cells)) → All (λ c. IsTrue (holds (numbers_of w.cells) c.0)) cells → is_used_outside cells old.graph.rows ≡ false → CanGo old cells
  can_go rising present unused = record {
    places = places_rise;
    tabled = tabled;
    regions = can_leave;
    named = all_named present;
    rising = rising;
    unused = unused;
  }

  module _ (unused : is_used_outside cells old.graph.rows ≡ false) (new : Machine) (is : IsTaken old cells new) where
    base_is : new.memory.base ≡ old.memory.base
    base_is = ap (λ (m : MemoryState). m.base) is.memory ∙ same_base starts old.memory

    pages_is : new.memory.pages ≡ old.memory.pages
    pages_is = ap (λ (m : MemoryState). m.pages) is.memory ∙ same_pages starts old.memory

    abbrev regions_after : List Region
    regions_after = filter (λ r. not (holds (lost_starts w.cells (numbers cells)) r.start)) old.memory.regions

    regions_is : new.memory.regions ≡ regions_after
    regions_is =
        ap (λ (m : MemoryState). m.regions) is.memory
        ∙ (regions_left starts old.memory
        ∙ ap (λ (starts : List ℕ). filter (λ r. not (holds starts r.start)) old.memory.regions) (sym starts_are))

    abbrev cells_after : List Cell
    cells_after = filter (λ c. not (holds (numbers cells) c.id.0)) w.cells

    items_are : new.cells.items ≡ map placed_of cells_after
    items_are =
        is.left
        ∙ (ap (filter (stay cells)) (sym sound.joined.placed) ∙ filter_mapped (stay cells) placed_of w.cells)

    known_are : new.spaces.cells ≡ map called cells_after
    known_are = is.names ∙ (ap (filter (λ (c : SpaceCell). not (holds (numbers cells) c.cell.0))) (sym sound.joined.called) ∙ known_left cells w.cells)

    cells_is : cells_of new.cells.items new.spaces.cells ≡ cells_after
    cells_is = cells_are cells_after new.cells.items new.spaces.cells items_are known_are

    abbrev rows_after : List LinkRow
    rows_after = filter (λ link. not (holds (numbers cells) link.user.cell.0 || holds (numbers cells) link.target.cell.0)) old.graph.rows

    rows_is : new.graph.rows ≡ rows_after
    rows_is = is.rows ∙ links_gone cells old.graph.rows unused

    abbrev by : ℕ → ℕ → List Region → List Namespace → List Cell → List LinkRow → TasksState → ℕ → ℕ → World
    by base pages regions namespaces cs rows tasks next swaps =
        record {
          base = base;
          pages = pages;
          namespaces = namespaces;
          cells = cs;
          links = rows;
          regions = regions;
          tasks = tasks.tasks;
          next_cell = next;
          next_task = tasks.next;
          swaps = swaps;
        }

    world_is : world_of new ≡ without_cells w (numbers cells)
    world_is =
        ap (λ n. by n new.memory.pages new.memory.regions new.spaces.namespaces (cells_of new.cells.items new.spaces.cells) new.graph.rows new.tasks new.next new.swaps) base_is
        ∙ (ap (λ n. by old.memory.base n new.memory.regions new.spaces.namespaces (cells_of new.cells.items new.spaces.cells) new.graph.rows new.tasks new.next new.swaps) pages_is
        ∙ (ap (λ (rs : List Region). by old.memory.base old.memory.pages rs new.spaces.namespaces (cells_of new.cells.items new.spaces.cells) new.graph.rows new.tasks new.next new.swaps) regions_is
        ∙ (ap (λ (ns : List Namespace). by old.memory.base old.memory.pages regions_after ns (cells_of new.cells.items new.spaces.cells) new.graph.rows new.tasks new.next new.swaps) is.namespaces
        ∙ (ap (λ (cs : List Cell). by old.memory.base old.memory.pages regions_after old.spaces.namespaces cs new.graph.rows new.tasks new.next new.swaps) cells_is
        ∙ (ap (λ (rows : List LinkRow). by old.memory.base old.memory.pages regions_after old.spaces.namespaces cells_after rows new.tasks new.next new.swaps) rows_is
        ∙ (ap (λ (tasks : TasksState). by old.memory.base old.memory.pages regions_after old.spaces.namespaces cells_after rows_after tasks new.next new.swaps) is.tasks
        ∙ ap₂ (by old.memory.base old.memory.pages regions_after old.spaces.namespaces cells_after rows_after old.tasks) is.next is.swaps))))))

    well : IsWell old.memory
    well = record { laid = is.laid; long = ap length sound.seals ∙ table_long old.memory.base (4096 * old.memory.pages) (field_bytes old.cells.items) }

    seals_is : new.memory.sealed ≡ seal_table new.memory.base (4096 * new.memory.pages) (field_bytes new.cells.items)
    seals_is =
        ap (λ (m : MemoryState). m.sealed) is.memory
        ∙ (ap (λ (starts : List ℕ). (without_regions old.memory starts).sealed) (sym starts_are)
        ∙ (seals_after w sound.coherent (numbers cells) old.cells.items sound.joined.placed old.memory well refl sound.seals (subst (λ (starts : List ℕ). CanLeave old.memory starts) (sym starts_are) can_leave)
        ∙ (ap (λ n. seal_table n (4096 * old.memory.pages) (field_bytes (filter (stay cells) old.cells.items))) (sym base_is)
        ∙ (ap (λ n. seal_table new.memory.base (4096 * n) (field_bytes (filter (stay cells) old.cells.items))) (sym pages_is)
        ∙ ap (λ (cs : List NewCell). seal_table new.memory.base (4096 * new.memory.pages) (field_bytes cs)) (sym is.left)))))

    pub removed_is : IsRemoved old cells new
    removed_is = record {
      world = world_is;
      joined = joined_by cells_after new.cells.items new.spaces.cells items_are known_are;
      table = is.tabled.table;
      base = is.tabled.base;
      soft = is.soft ∙ (ap (filter (λ (c : CellId). not (holds (numbers cells) c.0))) sound.soft ∙ (soft_left cells old.cells.items ∙ ap soft_of (sym is.left)));
      sections = is.sections ∙ (ap (sections_without cells) sound.sections ∙ (keys_left cells old.cells.items ∙ ap keys_of (sym is.left)));
      seals = seals_is;
      undo = ap (λ (m : MemoryState). m.undo) is.memory ∙ no_undo starts old.memory sound.undo;
      patches = ap (λ (m : MemoryState). m.patches) is.memory ∙ same_patches starts old.memory;
      maps = ap (λ (m : MemoryState). m.maps) is.memory ∙ same_maps starts old.memory;
    }
