use Rattle.std.proofs.Common.{◌≡◌, ◌-◌}
use Rattle.cell_hart.specs.Step.{seen_of}
use Rattle.cell_world.specs.Running.Transfer.{routine_from}
use Rattle.cell_xfer.specs.Ran.{hart_as, tables_of}
use Rattle.cell_xfer.specs.Written.{HasWritten}
use Rattle.cell_xfer.proofs.routines.run.Given as goal

-- what is left of the run is the rest of the whole
abbrev pub invariant-loop-done : goal.invariant-loop-done
invariant-loop-done l = record {
  rest : routine_from (l.turns - l.done) (tables_of l.addresses) (seen_of l.memory) (hart_as l.hart) ≡ routine_from l.turns (tables_of l.addresses) (seen_of l.fn.memory) (hart_as l.fn.hart);
  written : HasWritten l.fn.memory l.memory l.done;
}
