-- The space as contracts see it.
use Rattle.std.specs.Prelude.{ℕ, Bool, List}
use Rattle.cell_world.specs.Placed.Pages.{filled}
use Rattle.cell_place.specs.declared.search.Run.{Run}

-- the address of the first page, and for each page whether it is taken
pub record SpaceState : Type 0 where
  pub base : ℕ
  pub taken : List Bool

-- the space with the run's pages all taken, or all free
abbrev pub with_run : SpaceState → Run → Bool → SpaceState
with_run s run taken = record s { taken = filled s.taken run.page run.count taken }
