use Rattle.std.proofs.Common.{◌≡◌, replicate}
use Rattle.std.specs.Prelude.{None}
use Rattle.cell_bearers.proofs.firsts.no_firsts.Given as goal

-- none so far
abbrev pub invariant-loop : goal.invariant-loop
invariant-loop l = l.firsts.items ≡ replicate l.counter None
