-- Bytes that no region has.
--     IsClear addr n r      the n bytes from the address on are none of the region's
use Rattle.std.specs.Prelude.{ℕ, ◌+◌, ◌≤◌, ◌⊎◌}
use Rattle.cell_world.specs.World.{Region}
use Rattle.cell_world.specs.Running.Memory.{end_of}

abbrev pub IsClear : ℕ → ℕ → Region → Type 0
IsClear addr n r = (addr + n ≤ r.start) ⊎ (end_of r ≤ addr)
