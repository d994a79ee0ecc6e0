use Rattle.std.proofs.Common.{◌≡◌, ℕ, ◌<◌, true, get_or}
use Rattle.std.specs.Prelude.{nat_le}
use Rattle.cell_world.specs.declared.state.Placed.{Placed}
use Rattle.cell_hold.proofs.sections.count_from.Given as goal

-- all so far are of the cell or of lower ones
abbrev pub invariant-loop-index : goal.invariant-loop-index
invariant-loop-index l = (k : ℕ) (d : Placed) → k < l.index → nat_le (get_or l.places k d).key.cell.0 l.cell.0 ≡ true
