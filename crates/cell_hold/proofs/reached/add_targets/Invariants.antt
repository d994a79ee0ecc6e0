use Rattle.std.proofs.Common.{◌≡◌}
use Rattle.cell_hold.proofs.Linking.{TargetsSoFar}
use Rattle.cell_hold.proofs.reached.add_targets.Given as goal

abbrev pub invariant-loop-link : goal.invariant-loop-link
invariant-loop-link l = record {
  added : TargetsSoFar l.graph l.fn.cell.0 l.link-iterator l.fn.into.room l.fn.into.items l.into.items;
  room : l.into.room ≡ l.fn.into.room;
}
