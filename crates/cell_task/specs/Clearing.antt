-- A stack that is cleared.
--     CanClear m stack          a stack begins there that may be written and has no seal
--     with_cleared m stack      the memory with zeros in it
--     zeroed stack n r          the region with n zeros from the stack's start on
--     zeroed_in m stack k       the memory with k times eight zeros there
use Rattle.std.specs.Prelude.{ℕ, ◌≡◌, ◌+◌, ◌*◌, ◌<◌, ◌^◌, true, false, length, map, replicate}
use Rattle.cell_num.specs.Limits.{stack_size}
use Rattle.cell_num.specs.Lists.{In}
use Rattle.cell_mem.specs.State.{MemoryState, is_sealed}
use Rattle.cell_world.specs.Running.Memory.{written}
use Rattle.cell_world.specs.Running.Restart.{cleared}
use Rattle.cell_world.specs.World.{Region}

pub record CanClear (m : MemoryState) (stack : ℕ) : Type 0 where
  pub region : Region
  pub there : In region m.regions
  pub start : region.start ≡ stack
  pub size : length region.bytes ≡ stack_size
  pub write : region.permission.write ≡ true
  pub low : stack + stack_size < 2 ^ 64
  pub unsealed : (k : ℕ) → k < 2048 → is_sealed m (stack + 8 * k) 8 ≡ false

abbrev pub with_cleared : MemoryState → ℕ → MemoryState
with_cleared m stack = record m { regions = map (cleared stack) m.regions }

-- with the whole stack's zeros it is `cleared`
abbrev pub zeroed : ℕ → ℕ → Region → Region
zeroed stack n r = written r stack (replicate n 0)

abbrev pub zeroed_in : MemoryState → ℕ → ℕ → MemoryState
zeroed_in m stack k = record m { regions = map (zeroed stack (8 * k)) m.regions }
