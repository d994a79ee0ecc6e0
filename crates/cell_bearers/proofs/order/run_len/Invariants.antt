use Rattle.std.proofs.Common.{◌≡◌, ◌<◌, ◌≤◌, ◌-◌, ℕ, length, get_or}
use Rattle.cell_bearers.specs.Namings.{Named}
use Rattle.cell_bearers.proofs.order.run_len.Given as goal

-- so many have the name of the first
abbrev pub invariant-loop-len : goal.invariant-loop-len
invariant-loop-len l = record {
  some : 0 < l.len;
  within : l.len ≤ length l.namings;
  same : (k : ℕ) (d : Named) → k < l.len → (get_or l.namings k d).name ≡ (get_or l.namings 0 d).name;
}

abbrev pub decreases-loop-len : goal.decreases-loop-len
decreases-loop-len l = length l.namings - l.len
