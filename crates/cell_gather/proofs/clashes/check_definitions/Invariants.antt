use Rattle.std.proofs.Common.{◌≡◌, drop}
use Rattle.cell_gather.specs.Appending.{clash_among_now}
use Rattle.cell_gather.proofs.clashes.check_definitions.Given as goal

-- none so far
abbrev pub invariant-loop-place : goal.invariant-loop-place
invariant-loop-place l = clash_among_now l.ahead.spaces l.path.ns (drop l.place l.names) ≡ clash_among_now l.ahead.spaces l.path.ns l.names
