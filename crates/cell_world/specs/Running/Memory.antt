-- The bytes of regions.
--     covers r addr                       the address is in the region
--     region_in regions addr              the region that covers the address
--     read_in regions addr n              the n bytes from the address on, where they are in one region
--     region_at w, read w                 the same of the machine's regions
--     pasted bytes i new                  the bytes with new from place i on
--     written r addr new                  the region with new from the address on, where it covers the address
--     put_in regions x                    the regions after a write
--     put_by regions store                the regions after a store, where there is one
use Rattle.std.specs.Prelude.{ℕ, ◌+◌, ◌-◌, nat_lt, nat_le, Bool, ◌&&◌, List, ◌++◌, Option, Some, None, length, map, take, drop, find, slice_range, if◌then◌else◌, option_and_then}
use Rattle.cell_world.specs.World.{World, Region}
use Rattle.cell_num.specs.Bits.{bytes_of}
use Rattle.cell_num.specs.Lists.{where_true}

abbrev pub end_of : Region → ℕ
end_of r = r.start + length r.bytes

abbrev pub covers : Region → ℕ → Bool
covers r addr = nat_le r.start addr && nat_lt addr (end_of r)

abbrev pub region_in : List Region → ℕ → Option Region
region_in regions addr = find (λ r. covers r addr) regions

abbrev pub region_at : World → ℕ → Option Region
region_at w addr = region_in w.regions addr

abbrev pub pasted : List ℕ → ℕ → List ℕ → List ℕ
pasted bytes i new = take i bytes ++ new ++ drop (i + length new) bytes

abbrev pub written : Region → ℕ → List ℕ → Region
written r addr new = if covers r addr then record r { bytes = pasted r.bytes (addr - r.start) new } else r

-- n bytes of the region from an address on, where they are in it
abbrev pub part_of : Region → ℕ → ℕ → Option (List ℕ)
part_of r addr n = where_true (nat_le (addr + n) (end_of r)) (slice_range r.bytes (addr - r.start) (addr - r.start + n))

abbrev pub read_in : List Region → ℕ → ℕ → Option (List ℕ)
read_in regions addr n = option_and_then (λ r. part_of r addr n) (region_in regions addr)

abbrev pub read : World → ℕ → ℕ → Option (List ℕ)
read w addr n = read_in w.regions addr n

-- so many low bytes of a number go to the address: a store that succeeds, or a patch
pub record Write : Type 0 where
  pub addr : ℕ
  pub width : ℕ
  pub value : ℕ

abbrev pub put_in : List Region → Write → List Region
put_in regions x = map (λ r. written r x.addr (bytes_of x.width x.value)) regions

abbrev pub put_by : List Region → Option Write → List Region
put_by regions None = regions
put_by regions (Some x) = put_in regions x
