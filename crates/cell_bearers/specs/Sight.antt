-- What is seen of cells.
--     sees_by sight c        the cell is seen
--     IsSight sight          its tables say which cells are seen, and the first cell of each object that is
use Rattle.std.specs.Prelude.{◌≡◌, ℕ, Bool, map}
use Rattle.cell_described.specs.declared.cell.DescribedCell.{DescribedCell}
use Rattle.cell_bearers.specs.declared.sight.Sight.{Sight}
use Rattle.cell_bearers.specs.Seeing.{AreSoonest, first_at, first_from, sees}

abbrev pub sees_by : Sight → DescribedCell → Bool
sees_by s = sees s.asked s.spaces.now

pub record IsSight (s : Sight) : Type 0 where
  pub seen : s.seen.items ≡ map (sees_by s) s.cells.now
  pub firsts : (object : ℕ) → first_at s.firsts.items object ≡ first_from (sees_by s) object 0 s.cells.now
  pub soonest : AreSoonest s.firsts.items s.soonest.items
