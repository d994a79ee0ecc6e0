use Rattle.std.proofs.Common.{◌≡◌, ◌-◌, ◌≤◌, drop}
use Rattle.cell_hart.specs.Step.{seen_of}
use Rattle.cell_world.specs.Running.Transfer.{transferred}
use Rattle.cell_xfer.specs.Ran.{tables_of}
use Rattle.cell_xfer.specs.Written.{HasWritten}
use Rattle.cell_xfer.proofs.routines.transfer.Given as goal

-- what the routines that are left leave is what all leave
abbrev pub invariant-loop-routine : goal.invariant-loop-routine
invariant-loop-routine l = record {
  few : l.left ≤ l.budget;
  written : HasWritten l.fn.memory l.memory (l.budget - l.left);
  rest :
      transferred l.left (tables_of l.addresses) (seen_of l.memory) l.stack (drop l.routine-index l.routines)
      ≡ transferred l.budget (tables_of l.addresses) (seen_of l.fn.memory) l.stack l.routines;
}
