use Rattle.std.proofs.lemmas.Result.{err_from_is_err_and}
use Rattle.cell_task.specs.State.{seen_as}
use Rattle.cell_world.specs.Commands.TaskCommands.{next_step}
use Rattle.cell_machine.specs.Machine.{world_of}
use Rattle.cell_schedule.proofs.OneStep.{is_ready, lacking, not_live, not_ready, stepped}
use Rattle.cell_schedule.proofs.stepping.step.Goals as goal

pub returns-in_err-live : goal.returns-in_err-live
returns-in_err-live c =
    let p = err_from_is_err_and c.from_residual.result c.from_residual.ensures.1 in
    rw (p.1, p.2) (not_live c.args.machine.now c.requires c.args.task c.args.turns c.in_err-live.field-0.0 c.in_err-live.ensures)

pub returns-in_err-can_run : goal.returns-in_err-can_run
returns-in_err-can_run c =
    let p = err_from_is_err_and c.from_residual-in_err-can_run.result c.from_residual-in_err-can_run.ensures.1 in
    rw (p.1, p.2) (not_ready c.args.machine.now c.requires c.args.task c.args.turns (seen_as c.args.task c.in_ok-live.field-0.now) c.in_ok-live.ensures c.in_err-can_run.field-0.0 c.in_err-can_run.ensures)

pub returns-in_err-out : goal.returns-in_err-out
returns-in_err-out c =
    let p = err_from_is_err_and c.from_residual-in_err-out.result c.from_residual-in_err-out.ensures.1 in
    rw (p.1) (lacking (next_step (world_of c.args.machine.now) c.args.task c.args.turns) c.args.machine.now p.0 p.2)

pub slice-run-requires-clause-ready : goal.slice-run-requires-clause-ready
slice-run-requires-clause-ready c = is_ready c.args.machine.now c.requires c.args.task c.args.turns (seen_as c.args.task c.in_ok-live.field-0.now) c.in_ok-live.ensures c.in_ok-can_run.ensures

pub returns : goal.returns
returns c = stepped c.args.machine.now c.requires c.args.task c.args.turns (seen_as c.args.task c.in_ok-live.field-0.now) c.in_ok-live.ensures c.in_ok-can_run.ensures c.slice-run.result c.slice-run.new.machine c.slice-run.ensures
