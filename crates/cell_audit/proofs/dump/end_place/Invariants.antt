use Rattle.std.proofs.Common.{◌-◌, ◌≤◌, length}
use Rattle.cell_audit.proofs.Finding.{IsEndOn}
use Rattle.cell_audit.proofs.dump.end_place.Given as goal

-- where the lines from there on have an end, that is the end of all
abbrev pub invariant-loop-len : goal.invariant-loop-len
invariant-loop-len l = record {
  end : IsEndOn l.text l.start;
  within : l.start ≤ length l.text;
}

abbrev pub decreases-loop-len : goal.decreases-loop-len
decreases-loop-len l = length l.text - l.start
