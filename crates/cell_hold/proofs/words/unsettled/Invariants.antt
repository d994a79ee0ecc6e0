use Rattle.std.proofs.Common.{◌≤◌, length}
use Rattle.cell_hold.specs.Spans.{IsPast}
use Rattle.cell_hold.proofs.words.unsettled.Given as goal

abbrev pub invariant-loop-rest : goal.invariant-loop-rest
invariant-loop-rest l = record {
  past : IsPast l.settled l.bytes l.rest;
  shorter : length l.rest ≤ length l.bytes;
}

abbrev pub decreases-loop-rest : goal.decreases-loop-rest
decreases-loop-rest l = length l.rest
