use Rattle.std.proofs.Common.{◌≤◌, ◌+◌, length}
use Rattle.cell_io.proofs.real_host.add_names.Given as goal

abbrev pub invariant-loop-entry : goal.invariant-loop-entry
invariant-loop-entry g l = length l.into.items ≤ l.limit + 1
