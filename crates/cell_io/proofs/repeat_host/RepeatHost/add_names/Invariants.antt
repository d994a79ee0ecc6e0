use Rattle.std.proofs.Common.{◌≡◌, ◌+◌, ◌≤◌, length}
use Rattle.cell_io.proofs.repeat_host.RepeatHost.add_names.Given as goal

abbrev pub invariant-loop-number : goal.invariant-loop-number
invariant-loop-number l = record {
  each : length l.into.items ≡ l.number;
  few : l.number ≤ l.limit + 1;
}
