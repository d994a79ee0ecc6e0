use Rattle.std.proofs.Common.{ap, is_some}
use Rattle.cell_schedule.proofs.Ended.{stack_mapped}
use Rattle.cell_schedule.proofs.Slices.{run_is}
use Rattle.cell_schedule.proofs.TurnSound.{by_number, has_stack}
use Rattle.cell_schedule.proofs.slice.slice.Goals as goal

pub run-ran-requires-clause-live : goal.run-ran-requires-clause-live
run-ran-requires-clause-live c = ap is_some c.requires.ready.live

pub run-ran-requires-clause-stack : goal.run-ran-requires-clause-stack
run-ran-requires-clause-stack c = λ t live. stack_mapped c.args.machine.now c.requires.sound t (by_number c.args.machine.now c.requires.sound t c.args.task live)

pub settle-requires-clause-above : goal.settle-requires-clause-above
settle-requires-clause-above c = (has_stack c.args.machine.now c.requires.sound c.args.task c.stack_of-stack.result c.requires.ready c.stack_of-stack.ensures).above

pub settle-requires-clause-low : goal.settle-requires-clause-low
settle-requires-clause-low c = (has_stack c.args.machine.now c.requires.sound c.args.task c.stack_of-stack.result c.requires.ready c.stack_of-stack.ensures).low

pub settle-requires-clause-taken : goal.settle-requires-clause-taken
settle-requires-clause-taken c = (has_stack c.args.machine.now c.requires.sound c.args.task c.stack_of-stack.result c.requires.ready c.stack_of-stack.ensures).taken

pub returns : goal.returns
returns c =
    run_is c.args.machine.now c.args.turns c.args.until_yield c.args.task c.stack_of-stack.result c.requires.sound c.requires.ready c.stack_of-stack.ensures
    c.args.out.items c.requires.empty c.run-ran.new.self c.run-ran.new.memory c.settle.new.space c.run-ran.result c.run-ran.new.out.items c.run-ran.ensures c.settle.ensures c.from_vec.result c.from_vec.ensures
