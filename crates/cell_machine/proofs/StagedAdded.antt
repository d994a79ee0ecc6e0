-- The machine with the staged cells: it is what linking comes to, and sound.
use Rattle.std.proofs.Common.{◌≡◌, refl, sym, ◌∙◌, ap, ap₂, subst, arith, ℕ, ◌+◌, ◌-◌, ◌*◌, ◌^◌, ◌≤◌, List, [], ◌∷◌, ◌++◌, map, length, min}
use Rattle.std.specs.Prelude.{All, None, flat_map, fold}
use Rattle.std.proofs.lemmas.Grind.{flat_map-append}
use Rattle.std.proofs.lemmas.List.Sums.{fold-append}
use Rattle.cell_num.specs.declared.ids.SecKey.{SecKey}
use Rattle.cell_world.specs.declared.state.LinkRow.{LinkRow}
use Rattle.cell_world.specs.declared.state.Namespace.{Namespace}
use Rattle.cell_world.specs.declared.state.NewCell.{NewCell}
use Rattle.cell_world.specs.World.{World, Cell, Region}
use Rattle.cell_world.specs.Coherent.{IsCoherent, wanted_shapes}
use Rattle.cell_world.specs.Placed.Place.{page_table}
use Rattle.cell_world.specs.Linked.Relink.{Patch, patched, patches_of}
use Rattle.cell_num.specs.Lists.{In}
use Rattle.cell_lemmas.specs.Loads.{objects_of, with_all}
use Rattle.cell_num.proofs.Elements.{In-right}
use Rattle.cell_lemmas.proofs.Placement.Placing.{all_table}
use Rattle.cell_link.specs.declared.value.FieldValue.{FieldValue}
use Rattle.cell_mem.specs.State.{MemoryState}
use Rattle.cell_place.specs.Space.{SpaceState}
use Rattle.cell_space.specs.Joined.{AreJoined, cells_of}
use Rattle.cell_space.proofs.Joined.{cells_are, cells_both, joined_both, joined_by}
use Rattle.cell_space.specs.declared.cell.SpaceCell.{SpaceCell}
use Rattle.cell_task.specs.State.{TasksState}
use Rattle.cell_commit.specs.Commit.{patches_from}
use Rattle.cell_commit.specs.Seals.{IsInSpace, seal_table, spans_of}
use Rattle.cell_commit.proofs.Sealing.{written_sealed}
use Rattle.cell_commit.proofs.Writing.{written_base, written_maps, written_pages, written_patches, written_regions, written_undo}
use Rattle.cell_machine.specs.declared.machine.Machine.{Machine}
use Rattle.cell_machine.proofs.Soft.{soft_append}
use Rattle.cell_num.specs.declared.ids.CellId.{CellId}
use Rattle.cell_machine.specs.declared.staged.Staged.{Staged}
use Rattle.cell_machine.specs.Machine.{AreParts, IsSound, field_bytes, keys_of, own_field_bytes, section_keys, soft_of, world_by, world_of}
use Rattle.cell_machine.specs.Staged.{AreNewIn, ComesTo, IsCommitted, IsStaged, arrivals}
use Rattle.cell_machine.proofs.Lists.{map-map}
use Rattle.cell_machine.proofs.NewFields.{fields_in_space, patches_are, spans_are}
use Rattle.cell_machine.proofs.NewRuns.{table_by_shapes}
use Rattle.cell_machine.proofs.StagedWorld.{F, W, known_are, new_count, taken}

-- n is m with all that is staged, which is written into the memory mid
module _ (m n : Machine) (s : Staged) (parts : AreParts m) (new : List Cell) (st : IsStaged (world_of m) new s) (mid : MemoryState) (rows : List LinkRow) (c : IsCommitted m mid rows (arrivals s.cells.items s.names.items) s n)
    (mid_base : mid.base ≡ m.memory.base) (mid_pages : mid.pages ≡ m.memory.pages) where
  abbrev u : World
  u = world_of m

  abbrev placed : World
  placed = W u new s st

  abbrev newcomers : List Cell
  newcomers = F u new s st

  base_is : n.memory.base ≡ m.memory.base
  base_is = ap (λ (x : MemoryState). x.base) c.memory ∙ (written_base mid s.fields.items ∙ mid_base)

  pages_are : n.memory.pages ≡ m.memory.pages
  pages_are = ap (λ (x : MemoryState). x.pages) c.memory ∙ (written_pages mid s.fields.items ∙ mid_pages)

  new_joined : AreJoined s.cells.items (arrivals s.cells.items s.names.items)
  new_joined = joined_by newcomers s.cells.items (arrivals s.cells.items s.names.items) st.cells (known_are u new s st)

  new_are : cells_of s.cells.items (arrivals s.cells.items s.names.items) ≡ newcomers
  new_are = cells_are newcomers s.cells.items (arrivals s.cells.items s.names.items) st.cells (known_are u new s st)

  -- the cells that were there, and then the new ones
  pub cells_now : cells_of n.cells.items n.spaces.cells ≡ u.cells ++ newcomers
  cells_now =
      ap₂ cells_of c.cells c.known
      ∙ (cells_both m.cells.items s.cells.items m.spaces.cells (arrivals s.cells.items s.names.items) parts.joined new_joined
      ∙ ap (λ (cs : List Cell). u.cells ++ cs) new_are)

  all_joined : AreJoined n.cells.items n.spaces.cells
  all_joined =
      subst (λ (items : List NewCell). AreJoined items n.spaces.cells) (sym c.cells)
      (subst (λ (names : List SpaceCell). AreJoined (m.cells.items ++ s.cells.items) names) (sym c.known)
      (joined_both m.cells.items s.cells.items m.spaces.cells (arrivals s.cells.items s.names.items) parts.joined new_joined))

  keys_are : n.graph.sections ≡ keys_of n.cells.items
  keys_are =
      c.sections
      ∙ (ap (λ (keys : List SecKey). keys ++ keys_of s.cells.items) parts.sections
      ∙ (sym (flat_map-append section_keys m.cells.items s.cells.items) ∙ ap keys_of (sym c.cells)))

  pub patches_raised : mid.patches ≤ 2 ^ 64 - 1 → n.memory.patches ≡ min (mid.patches + length s.fields.items) (2 ^ 64 - 1)
  patches_raised few = ap (λ (x : MemoryState). x.patches) c.memory ∙ written_patches mid s.fields.items few

  pub maps_raised : n.memory.maps ≡ mid.maps
  maps_raised = ap (λ (x : MemoryState). x.maps) c.memory ∙ written_maps mid s.fields.items

  pub regions_written : n.memory.regions ≡ map (λ r. fold patched r (patches_from s.fields.items)) mid.regions
  regions_written = ap (λ (x : MemoryState). x.regions) c.memory ∙ written_regions mid s.fields.items

  -- the machine is what linking comes to, and sound
  module _ (there : AreNewIn u placed newcomers) (changed : List Patch) (after : World) (comes : ComesTo placed newcomers changed rows after) (mid_regions : mid.regions ≡ map (λ r. fold patched r changed) placed.regions) where
    regions_are : n.memory.regions ≡ after.regions
    regions_are =
        regions_written
        ∙ (ap (map (λ (r : Region). fold patched r (patches_from s.fields.items))) mid_regions
        ∙ (map-map (λ (r : Region). fold patched r (patches_from s.fields.items)) (λ (r : Region). fold patched r changed) placed.regions
        ∙ (ap (λ (ps : List Patch). map (λ (r : Region). fold patched (fold patched r changed) ps) placed.regions) (ap patches_from st.fields ∙ patches_are placed newcomers)
        ∙ (both placed.regions ∙ sym (ap (λ (w : World). w.regions) comes.is)))))
      where
        both : (rs : List Region) → map (λ r. fold patched (fold patched r changed) (flat_map (patches_of placed) newcomers)) rs ≡ map (λ r. fold patched r (changed ++ flat_map (patches_of placed) newcomers)) rs
        both [] = refl
        both (r ∷ rs) = ap₂ (λ (x : Region) (xs : List Region). x ∷ xs) (sym (fold-append patched r changed (flat_map (patches_of placed) newcomers))) (both rs)

    rows_are : n.graph.rows ≡ after.links
    rows_are = c.rows ∙ (ap (λ (ls : List LinkRow). rows ++ ls) st.rows ∙ sym (ap (λ (w : World). w.links) comes.is))

    next_is : n.next ≡ after.next_cell
    next_is = c.next ∙ (ap (λ (k : ℕ). m.next + k) (sym (new_count u new s st)) ∙ sym (ap (λ (w : World). w.next_cell) comes.is))

    abbrev by : List Namespace → List Cell → List LinkRow → TasksState → ℕ → ℕ → World
    by spaces cs links tasks number swaps = record (world_by m.memory spaces cs links tasks number swaps) { regions = after.regions }

    memory_is : world_of n ≡ by n.spaces.namespaces (cells_of n.cells.items n.spaces.cells) n.graph.rows n.tasks n.next n.swaps
    memory_is =
        ap (λ b. record (world_of n) { base = b }) base_is
        ∙ (ap (λ k. record (world_of n) { base = m.memory.base; pages = k }) pages_are
        ∙ ap (λ (rs : List Region). record (world_of n) { base = m.memory.base; pages = m.memory.pages; regions = rs }) regions_are)

    parts_are : world_of n ≡ by m.spaces.namespaces (u.cells ++ newcomers) after.links m.tasks after.next_cell m.swaps
    parts_are =
        memory_is
        ∙ (ap (λ (spaces : List Namespace). by spaces (cells_of n.cells.items n.spaces.cells) n.graph.rows n.tasks n.next n.swaps) c.namespaces
        ∙ (ap (λ (cs : List Cell). by m.spaces.namespaces cs n.graph.rows n.tasks n.next n.swaps) cells_now
        ∙ (ap (λ (links : List LinkRow). by m.spaces.namespaces (u.cells ++ newcomers) links n.tasks n.next n.swaps) rows_are
        ∙ (ap (λ (ts : TasksState). by m.spaces.namespaces (u.cells ++ newcomers) after.links ts n.next n.swaps) c.tasks
        ∙ ap₂ (by m.spaces.namespaces (u.cells ++ newcomers) after.links m.tasks) next_is c.swaps))))

    linked_is : by m.spaces.namespaces (u.cells ++ newcomers) after.links m.tasks after.next_cell m.swaps ≡ after
    linked_is =
        ap (λ (w : World). record (world_by m.memory m.spaces.namespaces (u.cells ++ newcomers) w.links m.tasks w.next_cell m.swaps) { regions = w.regions }) comes.is
        ∙ sym comes.is

    pub world_is : world_of n ≡ after
    world_is = parts_are ∙ linked_is

    table_is : s.space.taken ≡ page_table after
    table_is =
        sym (all_table (objects_of new) u (taken u new s st) st.runs)
        ∙ table_by_shapes (record u { regions = with_all st.starts (objects_of new) u.regions }) after (sym (ap (λ (w : World). w.base) comes.is)) (sym (ap (λ (w : World). w.pages) comes.is))
        (comes.ready.regions ∙ (sym (ap wanted_shapes comes.is) ∙ sym comes.coherent.ready.regions))

    in_place : (d : Cell) → In d newcomers → In d placed.cells
    in_place d k = In-right u.cells newcomers d k

    fields_inside : All (IsInSpace mid.base mid.pages) s.fields.items
    fields_inside =
        subst (λ (b : ℕ). All (IsInSpace b mid.pages) s.fields.items) (sym mid_base)
        (subst (λ (k : ℕ). All (IsInSpace m.memory.base k) s.fields.items) (sym mid_pages)
        (subst (λ (fs : List FieldValue). All (IsInSpace m.memory.base m.memory.pages) fs) (sym st.fields)
        (fields_in_space placed comes.ready.in_space there.linkable newcomers in_place)))

    abbrev sealed_before : List (ℕ × ℕ)
    sealed_before = field_bytes m.cells.items

    bytes_are : sealed_before ++ spans_of s.fields.items ≡ field_bytes n.cells.items
    bytes_are =
        ap (λ (spans : List (ℕ × ℕ)). sealed_before ++ spans) (ap spans_of st.fields ∙ (spans_are placed newcomers ∙ ap field_bytes (sym st.cells)))
        ∙ (sym (flat_map-append own_field_bytes m.cells.items s.cells.items) ∙ ap field_bytes (sym c.cells))

    module _ (mid_sealed : mid.sealed ≡ m.memory.sealed) (mid_undo : mid.undo ≡ None) (few_patches : mid.patches ≤ 2 ^ 64 - 1) (few_maps : mid.maps ≤ 2 ^ 64 - 1) where
      seals_before : mid.sealed ≡ seal_table mid.base (4096 * mid.pages) sealed_before
      seals_before =
          mid_sealed
          ∙ (parts.seals
          ∙ (ap (λ b. seal_table b (4096 * m.memory.pages) sealed_before) (sym mid_base)
          ∙ ap (λ k. seal_table mid.base (4096 * k) sealed_before) (sym mid_pages)))

      -- the fields of the new cells are sealed, and those that were
      seals_are : n.memory.sealed ≡ seal_table n.memory.base (4096 * n.memory.pages) (field_bytes n.cells.items)
      seals_are =
          ap (λ (x : MemoryState). x.sealed) c.memory
          ∙ (written_sealed mid sealed_before s.fields.items fields_inside seals_before
          ∙ (ap (seal_table mid.base (4096 * mid.pages)) bytes_are
          ∙ (ap (λ b. seal_table b (4096 * mid.pages) (field_bytes n.cells.items)) (mid_base ∙ sym base_is)
          ∙ ap (λ k. seal_table n.memory.base (4096 * k) (field_bytes n.cells.items)) (mid_pages ∙ sym pages_are))))

      pub sound_added : IsSound n
      sound_added = record {
        coherent = subst IsCoherent (sym world_is) comes.coherent;
        parts = record {
          joined = all_joined;
          table = ap (λ (x : SpaceState). x.taken) c.space ∙ (table_is ∙ ap page_table (sym world_is));
          base = ap (λ (x : SpaceState). x.base) c.space ∙ (st.base ∙ sym base_is);
          soft = c.soft ∙ (ap (λ (ids : List CellId). ids ++ soft_of s.cells.items) parts.soft ∙ (sym (soft_append m.cells.items s.cells.items) ∙ ap soft_of (sym c.cells)));
          sections = keys_are;
          seals = seals_are;
          patches = let k = patches_raised few_patches in omega (arith, k);
          maps = let k = maps_raised in omega (arith, k, few_maps);
        };
        undo = ap (λ (x : MemoryState). x.undo) c.memory ∙ written_undo mid s.fields.items mid_undo;
      }
