use Rattle.std.proofs.Common.{sym, subst, List}
use Rattle.std.proofs.lemmas.Result.{err_from_is_err_and}
use Rattle.cell_world.specs.declared.reply.Reply.TheVariants.{Run as RunDone}
use Rattle.cell_world.specs.declared.reply.TaskRun.{TaskRun}
use Rattle.cell_world.specs.Commands.TaskCommands.{next_run}
use Rattle.cell_machine.specs.Machine.{world_of}
use Rattle.cell_machine.specs.Does.{HasDone}
use Rattle.cell_schedule.proofs.OneStep.{lacking}
use Rattle.cell_schedule.proofs.Rounds.{all_gone, ready_due}
use Rattle.cell_schedule.proofs.round.run.Goals as goal

pub returns-in_err-due : goal.returns-in_err-due
returns-in_err-due c =
    let p = err_from_is_err_and c.from_residual.result c.from_residual.ensures.1 in
    rw (p.1) (lacking (next_run (world_of c.args.machine.now) c.args.turns) c.args.machine.now p.0 p.2)

pub returns-in_err-runs : goal.returns-in_err-runs
returns-in_err-runs c =
    let p = err_from_is_err_and c.from_residual-in_err-runs.result c.from_residual-in_err-runs.ensures.1 in
    rw (p.1) (lacking (next_run (world_of c.args.machine.now) c.args.turns) c.args.machine.now p.0 p.2)

pub run_each-runs-requires-clause-due : goal.run_each-runs-requires-clause-due
run_each-runs-requires-clause-due c = ready_due c.args.machine.now c.requires c.args.turns c.in_ok-due.due.items c.in_ok-due.ensures.ready c.in_ok-due.ensures.room

pub returns : goal.returns
returns c =
    subst (λ (runs : List TaskRun). HasDone (next_run (world_of c.args.machine.now) c.args.turns) 0 c.args.machine.now (RunDone runs) c.run_each-runs.new.machine) (sym c.from_vec.ensures)
    (all_gone c.args.machine.now c.requires c.args.turns c.in_ok-due.due.items c.in_ok-due.ensures.ready c.run_each-runs.result.items c.run_each-runs.new.machine c.run_each-runs.ensures)
