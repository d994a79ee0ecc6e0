-- What writes make of a memory.
--     all_written m writes        the memory after the writes, the first first
--     HasWritten m n most         the memory was m and is n, after at most so many writes
use Rattle.std.specs.Prelude.{◌≡◌, ◌≤◌, ℕ, List, [], ◌∷◌, length}
use Rattle.cell_world.specs.Running.Undo.{Write, ArePuts}
use Rattle.cell_mem.specs.State.{MemoryState, written_at}

abbrev pub all_written : MemoryState → List Write → MemoryState
all_written m [] = m
all_written m (x ∷ writes) = all_written (written_at m x.addr x.width x.value) writes

-- each has its bytes in a region
pub record HasWritten (m n : MemoryState) (most : ℕ) : Type 0 where
  pub writes : List Write
  pub made : n ≡ all_written m writes
  pub puts : ArePuts m.regions writes
  pub few : length writes ≤ most
