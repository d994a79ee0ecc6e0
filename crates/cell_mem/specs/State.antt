-- The memory as contracts see it, and what its calls make of it.
--     MemoryState                       regions, seals and counts
--     region_of m addr                  the region that covers the address
--     region_with m addr n              the region that has the n bytes from the address on
--     bytes_at m addr n                 these bytes
--     is_sealed m addr n                one of these bytes is sealed
--     written_at m addr width value     m with the number's low bytes from the address on
--     patched_at, sealed_at             what a patch and a seal leave
--     IsRoom m start n, mapped, unmapped, one_more
--     HasWrites m n                     where an undo is begun, so many writes are left
--     begun_at m n, undone_at m         with an undo begun, and gone back by it
--     journal_in m                      the records of the begun undo
--     before_in m                       the regions that it gives back
use Rattle.std.specs.Prelude.{◌≡◌, ◌≤◌, ℕ, ◌+◌, ◌-◌, ◌*◌, ◌%◌, ◌^◌, ◌==◌, nat_le, Bool, true, false, ◌||◌, List, [], ◌∷◌, Option, Some, None, length, find, min, max, replicate, slice_range, option_map, option_and_then, unwrap_or, IfSome}
use Rattle.std.specs.List.{list_any, list_all}
use Rattle.cell_num.specs.Limits.{page_size}
use Rattle.cell_num.specs.Lists.{holds, where_true}
use Rattle.cell_world.specs.World.{Region, Permission}
use Rattle.cell_world.specs.Running.Memory.{covers, end_of}
pub use Rattle.cell_world.specs.Running.Memory.{part_of}
use Rattle.cell_world.specs.Placed.Pages.{filled}
use Rattle.cell_world.specs.Placed.Place.{with_region}
use Rattle.cell_world.specs.Running.Turn.{without_region}
use Rattle.cell_world.specs.declared.transfer.Record.{Record}
use Rattle.cell_world.specs.Running.Undo.{Write, put_in, record_of}
use Rattle.cell_mem.specs.Undo.{UndoState, begun, noted, with_mapped, with_unmapped}

-- regions ascend by their starts; `sealed` has one Bool a byte of the space; `spare` is how many regions
-- more can be mapped without memory
pub record MemoryState : Type 0 where
  pub base : ℕ
  pub pages : ℕ
  pub regions : List Region
  pub sealed : List Bool
  pub spare : ℕ
  pub undo : Option UndoState
  pub patches : ℕ
  pub maps : ℕ

abbrev pub region_of : MemoryState → ℕ → Option Region
region_of m addr = find (λ r. covers r addr) m.regions

abbrev pub region_with : MemoryState → ℕ → ℕ → Option Region
region_with m addr n = option_and_then (λ r. where_true (nat_le (addr + n) (end_of r)) r) (region_of m addr)

-- n bytes of the region from an address on
abbrev pub bytes_in : Region → ℕ → ℕ → List ℕ
bytes_in r addr n = slice_range r.bytes (addr - r.start) (addr - r.start + n)

abbrev pub bytes_at : MemoryState → ℕ → ℕ → Option (List ℕ)
bytes_at m addr n = option_and_then (λ r. part_of r addr n) (region_of m addr)

abbrev pub is_sealed : MemoryState → ℕ → ℕ → Bool
is_sealed m addr n = list_any (λ sealed. sealed) (slice_range m.sealed (addr - m.base) (addr - m.base + n))

-- how many bytes a load, a store, a patch or a seal has
abbrev pub is_width : ℕ → Bool
is_width = holds (1 ∷ 2 ∷ 4 ∷ 8 ∷ [])

-- a count stands still at the last value of 64 bits
abbrev pub one_more : ℕ → ℕ
one_more count = min (count + 1) (2 ^ 64 - 1)

-- where an undo is begun, so many writes are left
abbrev pub HasWrites : MemoryState → ℕ → Type 0
HasWrites m n = IfSome m.undo (λ u. n ≤ u.left)

abbrev pub write_at : ℕ → ℕ → ℕ → Write
write_at addr width value = record { addr = addr; width = width; value = value }

-- the lowest byte first, whatever the region's permission; a begun undo notes what is displaced
abbrev pub written_at : MemoryState → ℕ → ℕ → ℕ → MemoryState
written_at m addr width value =
    record m {
      regions = put_in m.regions (write_at addr width value);
      undo = noted (record_of m.regions (write_at addr width value)) m.undo;
    }

abbrev pub patched_at : MemoryState → ℕ → ℕ → ℕ → MemoryState
patched_at m addr width value = record (written_at m addr width value) { patches = one_more m.patches }

abbrev pub sealed_at : MemoryState → ℕ → ℕ → MemoryState
sealed_at m addr width = record m { sealed = filled m.sealed (addr - m.base) width true }

-- n bytes from start on are one or more whole pages of the space, in no region, and a region is in reserve
pub record IsRoom (m : MemoryState) (start n : ℕ) : Type 0 where
  pub aligned : start % page_size ≡ 0
  pub whole : n % page_size ≡ 0
  pub filled : 1 ≤ n
  pub above : m.base ≤ start
  pub below : start + n ≤ m.base + page_size * m.pages
  pub apart : list_all (λ r. nat_le (end_of r) start || nat_le (start + n) r.start) m.regions ≡ true
  pub spare : 1 ≤ m.spare

abbrev pub mapped : MemoryState → ℕ → Permission → List ℕ → MemoryState
mapped m start permission bytes =
    record m {
      regions = with_region (record { start = start; permission = permission; bytes = bytes }) m.regions;
      spare = m.spare - 1;
      undo = with_mapped (record { start = start; permission = permission; bytes = bytes }) m.undo;
      maps = one_more m.maps;
    }

abbrev pub region_from : MemoryState → ℕ → Option Region
region_from m start = find (λ r. r.start == start) m.regions

abbrev pub size_of : Option Region → ℕ
size_of None = 0
size_of (Some r) = length r.bytes

-- without the region that starts there, and without its seals; its room is in reserve again
abbrev pub unmapped : MemoryState → ℕ → MemoryState
unmapped m start =
    record m {
      regions = without_region start m.regions;
      sealed = filled m.sealed (start - m.base) (size_of (region_from m start)) false;
      spare = m.spare + 1;
      undo = with_unmapped start m.undo;
    }

abbrev pub reserved : MemoryState → ℕ → MemoryState
reserved m regions = record m { spare = max m.spare regions }

abbrev pub begun_at : MemoryState → ℕ → MemoryState
begun_at m writes = record m { undo = Some (begun writes m.regions) }

-- none where no undo is begun
abbrev pub journal_in : MemoryState → List Record
journal_in m = unwrap_or (option_map (λ u. u.journal) m.undo) []

-- those that are there where no undo is begun
abbrev pub before_in : MemoryState → List Region
before_in m = unwrap_or (option_map (λ u. u.before) m.undo) m.regions

-- what was patched and mapped meanwhile counts, and what was sealed is so still
abbrev pub undone_at : MemoryState → MemoryState
undone_at m = record m { regions = before_in m; undo = None }

-- the memory of a space before the first region is mapped
abbrev pub empty_memory : ℕ → ℕ → MemoryState
empty_memory base pages =
    record {
      base = base;
      pages = pages;
      regions = [];
      sealed = replicate (page_size * pages) false;
      spare = 0;
      undo = None;
      patches = 0;
      maps = 0;
    }
