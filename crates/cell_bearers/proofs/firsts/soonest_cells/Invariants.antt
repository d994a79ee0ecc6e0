use Rattle.std.proofs.Common.{◌≡◌, ◌≤◌, ℕ, length}
use Rattle.std.specs.Prelude.{Some}
use Rattle.cell_bearers.specs.Seeing.{IsUpTo, first_at}
use Rattle.cell_bearers.proofs.firsts.soonest_cells.Given as goal

-- the soonest of those from there on
abbrev pub invariant-loop-object : goal.invariant-loop-object
invariant-loop-object l = record {
  len : length l.soonest.items ≡ length l.firsts;
  so_far : (b c : ℕ) → l.object ≤ b → first_at l.firsts b ≡ Some c → IsUpTo l.so_far c;
  soonest : (a b c : ℕ) → l.object ≤ a → a ≤ b → first_at l.firsts b ≡ Some c → IsUpTo (first_at l.soonest.items a) c;
}
