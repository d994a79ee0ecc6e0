-- What writing fields leaves of a memory, part by part, whether they are sealed before or not.
use Rattle.std.proofs.Common.{◌≡◌, refl, sym, ap, ◌∙◌, arith, ◌+◌, ◌-◌, ◌^◌, ◌≤◌, ℕ, suc, List, [], ◌∷◌, None, length, map, min}
use Rattle.std.specs.Prelude.{fold}
use Rattle.std.proofs.lemmas.List.{map-id}
use Rattle.std.proofs.lemmas.Simd.{map-map}
use Rattle.cell_world.specs.World.{Region}
use Rattle.cell_world.specs.Linked.Relink.{patched}
use Rattle.cell_mem.specs.State.{HasWrites, MemoryState, one_more, write_at}
use Rattle.cell_mem.proofs.Noting.{fewer_writes, one_taken}
use Rattle.cell_mem.specs.Undo.{noted}
use Rattle.cell_world.specs.Running.Undo.{record_of}
use Rattle.cell_link.specs.declared.value.FieldValue.{FieldValue}
use Rattle.cell_commit.specs.Commit.{field_patched, field_written, fields_patched, fields_written, patch_from, patches_from}
use Rattle.cell_commit.proofs.Mapping.{count_bound, count_more, count_none}

-- a step that writes one field and counts it
record IsWrite (step : MemoryState → FieldValue → MemoryState) : Type 0 where
  regions : (m : MemoryState) (f : FieldValue) → (step m f).regions ≡ map (λ r. patched r (patch_from f)) m.regions
  patches : (m : MemoryState) (f : FieldValue) → (step m f).patches ≡ one_more m.patches
  undo : (m : MemoryState) (f : FieldValue) → m.undo ≡ None → (step m f).undo ≡ None

module _ (step : MemoryState → FieldValue → MemoryState) (is : IsWrite step) where
  -- each region has all fields, one after another
  all_regions : (m : MemoryState) (fields : List FieldValue) → (fold step m fields).regions ≡ map (λ r. fold patched r (patches_from fields)) m.regions
  all_regions m [] = sym (map-id m.regions)
  all_regions m (f ∷ fields) =
      all_regions (step m f) fields
      ∙ (ap (map (λ (r : Region). fold patched r (patches_from fields))) (is.regions m f)
      ∙ map-map (λ (r : Region). fold patched r (patches_from fields)) (λ (r : Region). patched r (patch_from f)) m.regions)

  all_patches : (m : MemoryState) (fields : List FieldValue) → m.patches ≤ 2 ^ 64 - 1 → (fold step m fields).patches ≡ min (m.patches + length fields) (2 ^ 64 - 1)
  all_patches m [] le = count_none m.patches le
  all_patches m (f ∷ fields) le =
      all_patches (step m f) fields (bounded (is.patches m f))
      ∙ (ap (λ (n : ℕ). min (n + length fields) (2 ^ 64 - 1)) (is.patches m f) ∙ count_more m.patches (length fields))
    where
      bounded : (step m f).patches ≡ one_more m.patches → (step m f).patches ≤ 2 ^ 64 - 1
      bounded e = let b = count_bound m.patches in omega (arith, e, b)

  all_undo : (m : MemoryState) (fields : List FieldValue) → m.undo ≡ None → (fold step m fields).undo ≡ None
  all_undo m [] none = none
  all_undo m (f ∷ fields) none = all_undo (step m f) fields (is.undo m f none)

  -- a part that no step changes
  same_part : {X : Type 0} (part : MemoryState → X) → ((m : MemoryState) (f : FieldValue) → part (step m f) ≡ part m) → (m : MemoryState) (fields : List FieldValue) → part (fold step m fields) ≡ part m
  same_part part same m [] = refl
  same_part part same m (f ∷ fields) = same_part part same (step m f) fields ∙ same m f

written : IsWrite field_written
written = record { regions = λ m f. refl; patches = λ m f. refl; undo = λ m f none. ap (noted (record_of m.regions (write_at f.addr f.width f.value))) none }

pub written_regions : (m : MemoryState) (fields : List FieldValue) → (fields_written m fields).regions ≡ map (λ r. fold patched r (patches_from fields)) m.regions
written_regions = all_regions field_written written

pub written_patches : (m : MemoryState) (fields : List FieldValue) → m.patches ≤ 2 ^ 64 - 1 → (fields_written m fields).patches ≡ min (m.patches + length fields) (2 ^ 64 - 1)
written_patches = all_patches field_written written

pub written_undo : (m : MemoryState) (fields : List FieldValue) → m.undo ≡ None → (fields_written m fields).undo ≡ None
written_undo = all_undo field_written written

pub written_maps : (m : MemoryState) (fields : List FieldValue) → (fields_written m fields).maps ≡ m.maps
written_maps = same_part field_written written (λ (m : MemoryState). m.maps) (λ m f. refl)

pub written_base : (m : MemoryState) (fields : List FieldValue) → (fields_written m fields).base ≡ m.base
written_base = same_part field_written written (λ (m : MemoryState). m.base) (λ m f. refl)

pub written_pages : (m : MemoryState) (fields : List FieldValue) → (fields_written m fields).pages ≡ m.pages
written_pages = same_part field_written written (λ (m : MemoryState). m.pages) (λ m f. refl)

pub written_spare : (m : MemoryState) (fields : List FieldValue) → (fields_written m fields).spare ≡ m.spare
written_spare = same_part field_written written (λ (m : MemoryState). m.spare) (λ m f. refl)

patching : IsWrite field_patched
patching = record { regions = λ m f. refl; patches = λ m f. refl; undo = λ m f none. ap (noted (record_of m.regions (write_at f.addr f.width f.value))) none }

pub patched_regions : (m : MemoryState) (fields : List FieldValue) → (fields_patched m fields).regions ≡ map (λ r. fold patched r (patches_from fields)) m.regions
patched_regions = all_regions field_patched patching

pub patched_patches : (m : MemoryState) (fields : List FieldValue) → m.patches ≤ 2 ^ 64 - 1 → (fields_patched m fields).patches ≡ min (m.patches + length fields) (2 ^ 64 - 1)
patched_patches = all_patches field_patched patching

pub patched_undo : (m : MemoryState) (fields : List FieldValue) → m.undo ≡ None → (fields_patched m fields).undo ≡ None
patched_undo = all_undo field_patched patching

-- each field takes one of the writes of a begun undo
pub patched_leaves : (m : MemoryState) (fields : List FieldValue) (n : ℕ) → HasWrites m (length fields + n) → HasWrites (fields_patched m fields) n
patched_leaves m [] n has = fewer_writes m (0 + n) n (omega arith) has
patched_leaves m (f ∷ fields) n has =
    patched_leaves (field_patched m f) fields n
    (fewer_writes (field_patched m f) (suc (length fields) + n - 1) (length fields + n) (omega arith) (one_taken m (record_of m.regions (write_at f.addr f.width f.value)) (suc (length fields) + n) has))

pub patched_maps : (m : MemoryState) (fields : List FieldValue) → (fields_patched m fields).maps ≡ m.maps
patched_maps = same_part field_patched patching (λ (m : MemoryState). m.maps) (λ m f. refl)

pub patched_base : (m : MemoryState) (fields : List FieldValue) → (fields_patched m fields).base ≡ m.base
patched_base = same_part field_patched patching (λ (m : MemoryState). m.base) (λ m f. refl)

pub patched_pages : (m : MemoryState) (fields : List FieldValue) → (fields_patched m fields).pages ≡ m.pages
patched_pages = same_part field_patched patching (λ (m : MemoryState). m.pages) (λ m f. refl)

pub patched_sealed : (m : MemoryState) (fields : List FieldValue) → (fields_patched m fields).sealed ≡ m.sealed
patched_sealed = same_part field_patched patching (λ (m : MemoryState). m.sealed) (λ m f. refl)
