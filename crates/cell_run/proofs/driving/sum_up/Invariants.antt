use Rattle.std.proofs.Common.{◌≡◌, true, take}
use Rattle.cell_run.specs.Driven.{Tallies}
use Rattle.cell_run.proofs.driving.sum_up.Given as goal

-- the lines so far were done and their answers counted
abbrev pub invariant-loop-line : goal.invariant-loop-line
invariant-loop-line g l = record {
  far : Tallies g.M.Machine.acts l.fn.machine (take l.line-index l.lines) l.summary l.machine;
  started : g.M.Machine.is_started l.machine ≡ true;
}
