-- What a copy of a cell is.
--     IsCopy ns original c     c has the stem, the file, the object and the aliases of the original, and stands in that namespace
use Rattle.std.specs.Prelude.{ℕ, ◌≡◌}
use Rattle.cell_world.specs.World.{Cell}

pub record IsCopy (ns : ℕ) (original c : Cell) : Type 0 where
  pub space : c.ns ≡ ns
  pub stem : c.stem ≡ original.stem
  pub file : c.file ≡ original.file
  pub object : c.object ≡ original.object
  pub aliases : c.aliases ≡ original.aliases
