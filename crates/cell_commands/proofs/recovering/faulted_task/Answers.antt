use Rattle.std.proofs.Common.{◌∙◌, ap, not}
use Rattle.std.proofs.lemmas.Result.{err_from_is_err_and}
use Rattle.cell_machine.specs.Machine.{world_of}
use Rattle.cell_task.specs.State.{seen_as}
use Rattle.cell_commands.proofs.Faulted.{goes_on, has_faulted, not_live, ready_is}
use Rattle.cell_commands.proofs.recovering.faulted_task.Goals as goal

pub returns-in_err-task : goal.returns-in_err-task
returns-in_err-task c =
    let p = err_from_is_err_and c.from_residual.result c.from_residual.ensures.1 in
    rw (p.1, p.2) (not_live (world_of c.args.machine.now) c.args.number c.in_err-task.field-0.0 c.in_err-task.ensures)

pub returns-then-is_none : goal.returns-then-is_none
returns-then-is_none c =
    goes_on (world_of c.args.machine.now) c.args.number (seen_as c.args.number c.in_ok-task.task.now) (c.in_ok-task.ensures {u = tt})
    (ready_is c.args.number c.in_ok-task.task.now ∙ ap not (c.is_none.ensures ∙ ap not c.if-is_none.true))

pub returns : goal.returns
returns c =
    has_faulted (world_of c.args.machine.now) c.args.number (seen_as c.args.number c.in_ok-task.task.now) (c.in_ok-task.ensures {u = tt})
    (ready_is c.args.number c.in_ok-task.task.now ∙ ap not (c.is_none.ensures ∙ ap not c.if-is_none.false))
