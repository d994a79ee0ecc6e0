-- The machine with the staged cells is sound, and it is what linking comes to.
use Rattle.std.proofs.Common.{◌≡◌, ◌∙◌, ap, arith, ℕ, ◌+◌, ◌-◌, ◌^◌, ◌≤◌, List, ◌++◌, length, map, min}
use Rattle.std.specs.Prelude.{fold}
use Rattle.std.proofs.lemmas.List.{length-map}
use Rattle.cell_world.specs.declared.state.LinkRow.{LinkRow}
use Rattle.cell_world.specs.World.{World, Region}
use Rattle.cell_world.specs.Linked.Relink.{Patch, patched}
use Rattle.cell_lemmas.specs.Loads.{objects_of}
use Rattle.cell_mem.specs.State.{MemoryState}
use Rattle.cell_link.specs.declared.value.FieldValue.{FieldValue}
use Rattle.cell_commit.specs.Commit.{all_mapped, patches_from}
use Rattle.cell_commit.proofs.Mapping.{mapped_base, mapped_maps, mapped_pages, mapped_patches, mapped_regions, mapped_sealed, mapped_undo}
use Rattle.cell_commit.proofs.Writing.{patched_base, patched_maps, patched_pages, patched_patches, patched_regions, patched_sealed, patched_undo}
use Rattle.cell_machine.specs.declared.machine.Machine.{Machine}
use Rattle.cell_machine.specs.declared.staged.Staged.{Staged}
use Rattle.cell_machine.specs.Machine.{IsSound, world_of}
use Rattle.cell_machine.specs.Same.{raised}
use Rattle.cell_machine.specs.Staged.{IsCommitted, arrivals}
use Rattle.cell_machine.proofs.NewRuns.{all_put, put, puts_longer}
use Rattle.cell_machine.proofs.StagedAdded.{maps_raised, patches_raised, regions_written, sound_added, world_is}
use Rattle.cell_machine.proofs.StagedWorld.{W}
use Rattle.cell_load.specs.Adding.{IsAdded, IsReadyToAdd, memory_with}

module _ (m n : Machine) (s : Staged) (patches : List FieldValue) (rows : List LinkRow) (changed : List Patch) (are : patches_from patches ≡ changed) (r : IsReadyToAdd m changed rows s)
    (a : IsAdded m patches rows s (arrivals s.cells.items s.names.items) n) where
  abbrev roomy : MemoryState
  roomy = record m.memory { spare = a.spare }

  -- the memory with the new regions
  abbrev mapped : MemoryState
  mapped = all_mapped roomy s.regions.items

  -- in which fields of others are written
  abbrev mid : MemoryState
  mid = memory_with roomy s.regions.items patches

  is : IsCommitted m mid rows (arrivals s.cells.items s.names.items) s n
  is = record {
    cells = a.is.cells;
    soft = a.is.soft;
    next = a.is.next;
    swaps = a.is.swaps;
    namespaces = a.is.namespaces;
    known = a.is.known;
    space = a.is.space;
    memory = a.is.memory;
    sections = a.is.sections;
    rows = a.is.rows;
    tasks = a.is.tasks;
  }

  abbrev placed : World
  placed = W (world_of m) r.new s r.staged

  mid_regions : mid.regions ≡ map (λ (x : Region). fold patched x changed) placed.regions
  mid_regions =
      patched_regions mapped patches
      ∙ (ap (λ (ps : List Patch). map (λ (x : Region). fold patched x ps) mapped.regions) are
      ∙ ap (map (λ (x : Region). fold patched x changed))
      (mapped_regions roomy s.regions.items
      ∙ (ap (put m.memory.regions) r.staged.regions
      ∙ all_put r.staged.starts (objects_of r.new) m.memory.regions)))

  mid_base : mid.base ≡ m.memory.base
  mid_base = patched_base mapped patches ∙ mapped_base roomy s.regions.items

  mid_pages : mid.pages ≡ m.memory.pages
  mid_pages = patched_pages mapped patches ∙ mapped_pages roomy s.regions.items

  mid_maps : mid.maps ≡ min (m.memory.maps + length s.regions.items) (2 ^ 64 - 1)
  mid_maps = patched_maps mapped patches ∙ mapped_maps roomy s.regions.items r.parts.maps

  mid_patches : mid.patches ≡ min (m.memory.patches + length patches) (2 ^ 64 - 1)
  mid_patches =
      let few = r.parts.patches in
      let kept = mapped_patches roomy s.regions.items in
      patched_patches mapped patches (omega (arith, few, kept)) ∙ ap (λ (k : ℕ). min (k + length patches) (2 ^ 64 - 1)) kept

  few_patches : mid.patches ≤ 2 ^ 64 - 1
  few_patches = omega (arith, mid_patches)

  pub world_added : world_of n ≡ r.after
  world_added = world_is m n s r.parts r.new r.staged mid rows is mid_base mid_pages r.there changed r.after r.comes mid_regions

  pub sound : IsSound n
  sound =
      sound_added m n s r.parts r.new r.staged mid rows is mid_base mid_pages r.there changed r.after r.comes mid_regions
      (patched_sealed mapped patches ∙ mapped_sealed roomy s.regions.items) (patched_undo mapped patches (mapped_undo roomy s.regions.items r.undo)) few_patches (omega (arith, mid_maps))

  pub patches_now : n.memory.patches ≡ raised m.memory.patches (length patches + length s.fields.items)
  patches_now =
      let all = patches_raised m n s r.parts r.new r.staged mid rows is mid_base mid_pages few_patches in
      let before = mid_patches in
      omega (arith, all, before)

  pub maps_now : n.memory.maps ≡ raised m.memory.maps (length s.regions.items)
  maps_now = maps_raised m n s r.parts r.new r.staged mid rows is mid_base mid_pages ∙ mid_maps

  pub more_regions : length n.memory.regions ≡ length m.memory.regions + length s.regions.items
  more_regions =
      ap length (regions_written m n s r.parts r.new r.staged mid rows is mid_base mid_pages)
      ∙ (length-map mid.regions (λ (x : Region). fold patched x (patches_from s.fields.items))
      ∙ (ap length (patched_regions mapped patches)
      ∙ (length-map mapped.regions (λ (x : Region). fold patched x (patches_from patches))
      ∙ (ap length (mapped_regions roomy s.regions.items) ∙ puts_longer s.regions.items m.memory.regions))))
