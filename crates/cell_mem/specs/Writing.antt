-- A write into a region.
--     HasBytes r addr n      the region has the n bytes from the address on
--     put addr new r         the region with new from the address on
use Rattle.std.specs.Prelude.{◌≤◌, ℕ, ◌+◌, ◌-◌, List}
use Rattle.cell_world.specs.World.{Region}
use Rattle.cell_world.specs.Running.Memory.{end_of, pasted}

pub record HasBytes (r : Region) (addr n : ℕ) : Type 0 where
  pub low : r.start ≤ addr
  pub high : addr + n ≤ end_of r

abbrev pub put : ℕ → List ℕ → Region → Region
put addr new r = record r { bytes = pasted r.bytes (addr - r.start) new }
