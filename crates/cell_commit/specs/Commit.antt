-- What a commit makes of the memory.
--     all_mapped m regions      m with the regions, mapped one after another
--     fields_written m fields   m with each field sealed and then written
--     fields_patched m fields   m with each field written
--     AreRoom m regions         there is room for each region, once those before it are mapped
use Rattle.std.specs.Prelude.{◌≡◌, ◌+◌, ◌*◌, true, List, [], ◌∷◌, length, fold, map, is_some}
use Rattle.cell_num.specs.Limits.{page_size}
use Rattle.cell_num.specs.Bits.{bytes_of}
use Rattle.cell_world.specs.World.{Region}
use Rattle.cell_world.specs.Linked.Relink.{Patch}
use Rattle.cell_mem.specs.Index.{IsLaid}
use Rattle.cell_mem.specs.State.{MemoryState, IsRoom, is_width, mapped, patched_at, region_with, sealed_at}
use Rattle.cell_link.specs.declared.value.FieldValue.{FieldValue}

-- one more region
abbrev pub mapped_one : MemoryState → Region → MemoryState
mapped_one m r = mapped m r.start r.permission r.bytes

abbrev pub all_mapped : MemoryState → List Region → MemoryState
all_mapped m regions = fold mapped_one m regions

abbrev pub AreRoom : MemoryState → List Region → Type 0
AreRoom m [] = Unit {0}
AreRoom m (r ∷ regions) = IsRoom m r.start (length r.bytes) × AreRoom (mapped_one m r) regions

-- one region has the field's bytes
abbrev pub IsMapped : MemoryState → FieldValue → Type 0
IsMapped m f = (is_width f.width ≡ true) × (is_some (region_with m f.addr f.width) ≡ true)

abbrev pub field_patched : MemoryState → FieldValue → MemoryState
field_patched m f = patched_at m f.addr f.width f.value

abbrev pub fields_patched : MemoryState → List FieldValue → MemoryState
fields_patched m fields = fold field_patched m fields

-- sealed against stores, and then patched
abbrev pub field_written : MemoryState → FieldValue → MemoryState
field_written m f = field_patched (sealed_at m f.addr f.width) f

abbrev pub fields_written : MemoryState → List FieldValue → MemoryState
fields_written m fields = fold field_written m fields

-- what is written for the field
abbrev pub patch_from : FieldValue → Patch
patch_from f = record { addr = f.addr; bytes = bytes_of f.width f.value }

abbrev pub patches_from : List FieldValue → List Patch
patches_from fields = map patch_from fields

-- whole pages in the space, ascending and apart
abbrev pub IsLaidOut : MemoryState → Type 0
IsLaidOut m = IsLaid m.base m.regions (m.base + page_size * m.pages)
