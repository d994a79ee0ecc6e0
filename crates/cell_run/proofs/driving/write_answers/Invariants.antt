use Rattle.std.proofs.Common.{◌≡◌, ◌≤◌, true, take}
use Rattle.cell_run.proofs.Steps.{SoFar}
use Rattle.cell_run.proofs.driving.write_answers.Given as goal

-- the lines so far were done and their answers written
abbrev pub invariant-loop-line : goal.invariant-loop-line
invariant-loop-line g l = record {
  far : SoFar g.M.Machine.acts l.fn.machine (take l.line-index l.lines) l.some_refused l.machine (g.K.Sink.written l.fn.out) (g.K.Sink.written l.out);
  started : g.M.Machine.is_started l.machine ≡ true;
  room : g.K.Sink.room l.out ≡ g.K.Sink.room l.fn.out;
  later : g.K.Sink.faults l.fn.out ≤ g.K.Sink.faults l.out;
}
