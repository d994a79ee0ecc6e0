use Rattle.std.proofs.Common.{◌≡◌, ℕ, ◌<◌, ◌≤◌, false, length, get_or}
use Rattle.std.specs.Prelude.{nat_lt}
use Rattle.cell_space.specs.declared.cell.SpaceCell.{SpaceCell}
use Rattle.cell_space.proofs.lookup.cells_before.Given as goal

-- none from here on is lower
abbrev pub invariant-loop-step : goal.invariant-loop-step
invariant-loop-step l = record {
  some : 0 < l.step;
  within : l.high ≤ length l.cells;
  rest : (k : ℕ) (d : SpaceCell) → l.high ≤ k → k < length l.cells → nat_lt (get_or l.cells k d).cell.0 l.number ≡ false;
}

abbrev pub decreases-loop-step : goal.decreases-loop-step
decreases-loop-step l = l.high
