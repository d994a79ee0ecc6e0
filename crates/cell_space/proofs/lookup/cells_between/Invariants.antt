use Rattle.std.proofs.Common.{◌≡◌, ℕ, ◌-◌, ◌<◌, ◌≤◌, true, false, length, get_or}
use Rattle.std.specs.Prelude.{nat_lt}
use Rattle.cell_space.specs.declared.cell.SpaceCell.{SpaceCell}
use Rattle.cell_space.proofs.lookup.cells_between.Given as goal

-- what is left to be looked at is between the two
abbrev pub invariant-loop-from : goal.invariant-loop-from
invariant-loop-from l = record {
  order : l.from ≤ l.to;
  within : l.to ≤ length l.cells;
  before : (k : ℕ) (d : SpaceCell) → k < l.from → nat_lt (get_or l.cells k d).cell.0 l.number ≡ true;
  rest : (k : ℕ) (d : SpaceCell) → l.to ≤ k → k < length l.cells → nat_lt (get_or l.cells k d).cell.0 l.number ≡ false;
}

abbrev pub decreases-loop-from : goal.decreases-loop-from
decreases-loop-from l = l.to - l.from
