use Rattle.std.proofs.Common.{◌∙◌}
use Rattle.cell_world.specs.Running.Transfer.{routine_column}
use Rattle.cell_xfer.specs.Ran.{tables_of}
use Rattle.cell_xfer.proofs.Turning.{call_moved}
use Rattle.cell_xfer.proofs.Writing.{step_written}
use Rattle.cell_xfer.proofs.turn.turn.Goals as goal

pub returns-in-Next-clause-written : goal.returns-in-Next-clause-written
returns-in-Next-clause-written c = step_written c.step.result c.args.hart.now c.step.new.self c.args.memory.now c.step.new.memory c.step.ensures

pub returns-in-Call-clause-moved : goal.returns-in-Call-clause-moved
returns-in-Call-clause-moved c =
    c.call.ensures
    ∙ call_moved (routine_column (tables_of c.args.addresses.now)) c.args.hart.now c.step.new.self c.args.memory.now c.step.new.memory (c.in-Call.ensures {u = tt})

pub returns-in-Call-clause-written : goal.returns-in-Call-clause-written
returns-in-Call-clause-written c = step_written c.step.result c.args.hart.now c.step.new.self c.args.memory.now c.step.new.memory c.step.ensures

pub returns-in-Trap-clause-written : goal.returns-in-Trap-clause-written
returns-in-Trap-clause-written c = step_written c.step.result c.args.hart.now c.step.new.self c.args.memory.now c.step.new.memory c.step.ensures
