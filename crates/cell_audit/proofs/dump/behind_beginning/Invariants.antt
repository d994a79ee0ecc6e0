use Rattle.std.proofs.Common.{◌≡◌, ◌+◌, ◌-◌, ◌≤◌, length, slice_range}
use Rattle.cell_audit.proofs.Finding.{found_in}
use Rattle.cell_audit.proofs.dump.behind_beginning.Given as goal

-- the dump is found in what is left
abbrev pub invariant-loop-len : goal.invariant-loop-len
invariant-loop-len l = record {
  found : found_in l.number (slice_range l.file l.start (length l.file)) ≡ found_in 1 l.file;
  numbers : l.number ≤ l.start + 1;
  within : l.start ≤ length l.file;
}

abbrev pub decreases-loop-len : goal.decreases-loop-len
decreases-loop-len l = length l.file - l.start
