-- The cell that an entry leads into.
--     cell_in t                       the cell of the section that the target is in, none where it is a number
--     leads_elsewhere v w c e         the entry leads into another cell in w than it did in v, or into one where it did into none, or no more
use Rattle.std.specs.Prelude.{ℕ, ◌==◌, Bool, true, false, not, Option, Some, None}
use Rattle.cell_object.specs.declared.object.Entry.{Entry}
use Rattle.cell_world.specs.declared.state.Target.{Target}
use Rattle.cell_world.specs.declared.state.Target.TheVariants.{Section, Number}
use Rattle.cell_world.specs.World.{World, Cell}
use Rattle.cell_world.specs.Linked.Target.{target_of}
use Rattle.cell_world.specs.Changed.{now_in}

abbrev pub cell_in : Option Target → Option ℕ
cell_in None = None
cell_in (Some (Section key offset addr)) = Some key.cell.0
cell_in (Some (Number value)) = None

abbrev pub is_other_cell : Option ℕ → Option ℕ → Bool
is_other_cell None None = false
is_other_cell None (Some n) = true
is_other_cell (Some m) None = true
is_other_cell (Some m) (Some n) = not (m == n)

abbrev pub leads_elsewhere : World → World → Cell → Entry → Bool
leads_elsewhere v w c e = is_other_cell (cell_in (target_of v c e)) (cell_in (target_of w (now_in w c) e))
