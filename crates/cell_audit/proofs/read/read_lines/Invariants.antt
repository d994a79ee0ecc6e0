use Rattle.std.proofs.Common.{◌≡◌, ◌-◌, ◌≤◌, slice_range}
use Rattle.cell_audit.specs.Within.{texts_of}
use Rattle.cell_audit.proofs.Rows.{IsSoFar}
use Rattle.cell_audit.proofs.read.read_lines.Given as goal

-- the lines before are read, and those that are left go on behind them
abbrev pub invariant-loop-len : goal.invariant-loop-len
invariant-loop-len l = record {
  so_far : IsSoFar l.file (texts_of l.file l.lines) l.reader l.number (slice_range l.file l.start l.lines.end);
  lines_are : l.reader.written.lines ≡ l.lines;
  forward : l.start ≤ l.lines.end;
  numbers : l.number ≤ l.start;
}

abbrev pub decreases-loop-len : goal.decreases-loop-len
decreases-loop-len l = l.lines.end - l.start
