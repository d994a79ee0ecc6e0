-- What a load, a fetch and a store answer. The tests stand in a row, and the first that fails decides.
--     loaded m addr width            the number there
--     fetched m addr                 the instruction word there
--     stored m addr width value      the memory with the number there
use Rattle.std.specs.Prelude.{ℕ, ◌%◌, ◌==◌, Bool, true, false, not, Option, Some, None, Result, Ok, Err}
use Rattle.cell_num.specs.Bits.{little}
use Rattle.cell_world.specs.World.{Region}
use Rattle.cell_mem.specs.declared.fault.MemFault.{MemFault}
use Rattle.cell_mem.specs.declared.fault.MemFault.TheVariants.{Misaligned, Unmapped, Denied, Sealed}
use Rattle.cell_mem.specs.State.{MemoryState, region_with, bytes_in, is_sealed, written_at}

abbrev pub Checked : Type 0 → Type 0
Checked X = Result X MemFault

-- `x ← r` in a `do` block: go on with the value, or stop with the fault
infixl 10 ◌>>=◌
abbrev pub ◌>>=◌ : {X Y : Type 0} → Checked X → (X → Checked Y) → Checked Y
Ok x >>= f = f x
Err fault >>= f = Err fault

infixl 10 ◌>>◌
abbrev pub ◌>>◌ : {X Y : Type 0} → Checked X → Checked Y → Checked Y
Ok x >> next = next
Err fault >> next = Err fault

abbrev pub need : Bool → MemFault → Checked (Unit {0})
need true fault = Ok tt
need false fault = Err fault

-- the value, or the fault where there is none
abbrev pub found : {X : Type 0} → Option X → MemFault → Checked X
found None fault = Err fault
found (Some x) fault = Ok x

-- the region that has the bytes of an aligned address
abbrev pub region_for : MemoryState → ℕ → ℕ → Checked Region
region_for m addr width = need (addr % width == 0) Misaligned >> found (region_with m addr width) Unmapped

-- the lowest byte first
abbrev pub number_in : Region → ℕ → ℕ → ℕ
number_in r addr width = little (bytes_in r addr width)

abbrev pub loaded : MemoryState → ℕ → ℕ → Checked ℕ
loaded m addr width = do
  r ← region_for m addr width
  need r.permission.read Denied
  Ok (number_in r addr width)

abbrev pub fetched : MemoryState → ℕ → Checked ℕ
fetched m addr = do
  r ← region_for m addr 4
  need r.permission.exec Denied
  Ok (number_in r addr 4)

-- the tests of a store
abbrev pub storable : MemoryState → ℕ → ℕ → Checked (Unit {0})
storable m addr width = do
  r ← region_for m addr width
  need r.permission.write Denied
  need (not (is_sealed m addr width)) Sealed

abbrev pub stored : MemoryState → ℕ → ℕ → ℕ → Checked MemoryState
stored m addr width value = storable m addr width >> Ok (written_at m addr width value)
