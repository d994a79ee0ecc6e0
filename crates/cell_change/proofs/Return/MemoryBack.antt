-- The memory once the regions of the new cells are gone again.
use Rattle.std.proofs.Common.{◌≡◌, refl, sym, ap, subst, ◌∙◌, arith, ℕ, ◌+◌, ◌-◌, ◌*◌, ◌<◌, Bool, true, false, not, List, [], ◌∷◌, Option, None, length, map}
use Rattle.std.specs.Prelude.{filter, ◌==◌}
use Rattle.cell_num.specs.Lists.{holds, In}
use Rattle.cell_num.specs.declared.ids.CellId.{CellId}
use Rattle.cell_world.specs.World.{Region}
use Rattle.cell_world.specs.Placed.Pages.{filled}
use Rattle.cell_world.specs.Coherent.{Shape, shape_of}
use Rattle.cell_num.proofs.Elements.{In-All, In-map, filter-In, filter-Passes, map-In}
use Rattle.cell_num.proofs.Sublists.{map_filter}
use Rattle.cell_lemmas.proofs.Tasks.Undone.{undo_ended}
use Rattle.cell_commit.specs.Seals.{seal_table}
use Rattle.cell_mem.specs.Index.{IsLaid}
use Rattle.cell_mem.specs.State.{MemoryState, region_from, size_of, unmapped}
use Rattle.cell_mem.specs.Undo.{UndoState}
use Rattle.cell_machine.specs.declared.machine.Machine.{Machine}
use Rattle.cell_machine.specs.Machine.{IsSound, field_bytes, world_of}
use Rattle.cell_machine.specs.Staged.{all_attached}
use Rattle.cell_unload.specs.Unmapped.{CanLeave, lost_starts, without_regions}
use Rattle.cell_unload.proofs.AllRemoved.{can_leave, numbers, stay}
use Rattle.cell_mem.proofs.LaidApart.{laid_apart, laid_some, lies_in, same_sizes}
use Rattle.cell_unload.proofs.SealsLeft.{seals_after, table_long}
use Rattle.cell_unload.proofs.Unmapping.{IsWell, regions_left, same_base, same_maps, same_pages, same_patches, no_undo}

-- what hangs on the shapes of regions alone
other_shapes : (start : ℕ) (xs ys : List Region) → map shape_of xs ≡ map shape_of ys
    → map shape_of (filter (λ r. not (r.start == start)) xs) ≡ map shape_of (filter (λ r. not (r.start == start)) ys)
other_shapes start xs ys e =
    map_filter shape_of (λ (s : Shape). not (s.start == start)) xs
    ∙ ap (filter (λ (s : Shape). not (s.start == start))) e
    ∙ sym (map_filter shape_of (λ (s : Shape). not (s.start == start)) ys)

pub same_seals : (starts : List ℕ) (x y : MemoryState) → x.sealed ≡ y.sealed → x.base ≡ y.base → map shape_of x.regions ≡ map shape_of y.regions → (without_regions x starts).sealed ≡ (without_regions y starts).sealed
same_seals [] x y sealed base shapes = sealed
same_seals (s ∷ starts) x y sealed base shapes =
    same_seals starts (unmapped x s) (unmapped y s)
    (ap (λ bs. filled bs (s - x.base) (size_of (region_from x s)) false) sealed
    ∙ ap (λ b. filled y.sealed (s - b) (size_of (region_from x s)) false) base
    ∙ ap (λ n. filled y.sealed (s - y.base) n false) (same_sizes s x.regions y.regions shapes))
    base (other_shapes s x.regions y.regions shapes)

module _ (n : Machine) (sound : IsSound n) (cells : List CellId) (laid : IsLaid n.memory.base n.memory.regions (n.memory.base + 4096 * n.memory.pages)) where
  abbrev pub starts : List ℕ
  starts = lost_starts (all_attached n.cells.items) (numbers cells)

  abbrev pub other : Region → Bool
  other r = not (holds starts r.start)

  -- memories that differ from the machine's in bytes and counts, and that were there before the cells
  module _ (low high : ℕ) (regions : List Region) (old : MemoryState) (old_laid : IsLaid low regions high) (shapes : map shape_of regions ≡ map shape_of n.memory.regions)
      (left : map shape_of (filter other n.memory.regions) ≡ map shape_of old.regions) (there : (r : Region) → In r old.regions → In r regions) where
    shapes_left : map shape_of (filter other regions) ≡ map shape_of old.regions
    shapes_left =
        map_filter shape_of (λ (s : Shape). not (holds starts s.start)) regions
        ∙ ap (filter (λ (s : Shape). not (holds starts s.start))) shapes
        ∙ sym (map_filter shape_of (λ (s : Shape). not (holds starts s.start)) n.memory.regions)
        ∙ left

    passes : (r : Region) → In r old.regions → other r ≡ true
    passes r i =
        let q = In-map shape_of (filter other n.memory.regions) (shape_of r) (subst (λ (ss : List Shape). In (shape_of r) ss) (sym left) (map-In shape_of old.regions r i)) in
        ap (λ (s : Shape). not (holds starts s.start)) q.2 ∙ filter-Passes other n.memory.regions q.0 q.1

    now_laid : IsLaid low (filter other regions) high
    now_laid = laid_some other low regions high old_laid

    pub regions_back : filter other regions ≡ old.regions
    regions_back =
        undo_ended old.regions (filter other regions) (laid_apart low (filter other regions) high now_laid)
        (In-All (λ (r : Region). 0 < length r.bytes) (filter other regions) (λ r i. let l = lies_in low (filter other regions) high now_laid r i in omega (arith, l.whole.filled)))
        shapes_left
        (In-All (λ (r : Region). In r (filter other regions)) old.regions (λ r i. filter-In other regions r (there r i) (passes r i)))

  well : IsWell n.memory
  well = record { laid = laid; long = ap length sound.seals ∙ table_long n.memory.base (4096 * n.memory.pages) (field_bytes n.cells.items) }

  module _ (starts_are : lost_starts (world_of n).cells (numbers cells) ≡ starts) where
    seals_left : (without_regions n.memory starts).sealed ≡ seal_table n.memory.base (4096 * n.memory.pages) (field_bytes (filter (stay cells) n.cells.items))
    seals_left =
        ap (λ (ss : List ℕ). (without_regions n.memory ss).sealed) (sym starts_are)
        ∙ seals_after (world_of n) sound.coherent (numbers cells) n.cells.items sound.joined.placed n.memory well refl sound.seals
        (subst (λ (ss : List ℕ). CanLeave n.memory ss) (sym starts_are) (can_leave n sound cells))

    -- the memory before the cells, the memory when their fields were undone, and its regions
    module _ (old u : MemoryState) (base : u.base ≡ old.base) (pages : u.pages ≡ old.pages) (same_memory : n.memory.base ≡ old.base) (same_size : n.memory.pages ≡ old.pages)
        (sealed : u.sealed ≡ n.memory.sealed) (none : u.undo ≡ None) (old_none : old.undo ≡ None) (patches : u.patches ≡ old.patches) (maps : u.maps ≡ old.maps)
        (u_laid : IsLaid u.base u.regions (u.base + 4096 * u.pages)) (shapes : map shape_of u.regions ≡ map shape_of n.memory.regions)
        (left : map shape_of (filter other n.memory.regions) ≡ map shape_of old.regions) (there : (r : Region) → In r old.regions → In r u.regions)
        (seals : old.sealed ≡ seal_table old.base (4096 * old.pages) (field_bytes (filter (stay cells) n.cells.items))) where
      abbrev after : MemoryState
      after = without_regions u starts

      seals_back : after.sealed ≡ old.sealed
      seals_back =
          same_seals starts u n.memory sealed (base ∙ sym same_memory) shapes
          ∙ seals_left
          ∙ ap (λ b. seal_table b (4096 * n.memory.pages) (field_bytes (filter (stay cells) n.cells.items))) same_memory
          ∙ ap (λ p. seal_table old.base (4096 * p) (field_bytes (filter (stay cells) n.cells.items))) same_size
          ∙ sym seals

      abbrev by : ℕ → ℕ → List Region → List Bool → Option UndoState → ℕ → ℕ → MemoryState
      by b p rs marks o count mapped = record { base = b; pages = p; regions = rs; sealed = marks; spare = after.spare; undo = o; patches = count; maps = mapped }

      -- it is the memory before, but for room
      pub memory_back : after ≡ (record old { spare = after.spare })
      memory_back =
          ap (λ b. by b after.pages after.regions after.sealed after.undo after.patches after.maps) (same_base starts u ∙ base)
          ∙ ap (λ p. by old.base p after.regions after.sealed after.undo after.patches after.maps) (same_pages starts u ∙ pages)
          ∙ ap (λ rs. by old.base old.pages rs after.sealed after.undo after.patches after.maps)
          (regions_left starts u ∙ regions_back u.base (u.base + 4096 * u.pages) u.regions old u_laid shapes left there)
          ∙ ap (λ marks. by old.base old.pages old.regions marks after.undo after.patches after.maps) seals_back
          ∙ ap (λ o. by old.base old.pages old.regions old.sealed o after.patches after.maps) (no_undo starts u none ∙ sym old_none)
          ∙ ap (λ count. by old.base old.pages old.regions old.sealed old.undo count after.maps) (same_patches starts u ∙ patches)
          ∙ ap (λ mapped. by old.base old.pages old.regions old.sealed old.undo old.patches mapped) (same_maps starts u ∙ maps)
