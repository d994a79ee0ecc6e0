use Rattle.std.proofs.Common.{[], map}
use Rattle.std.proofs.lemmas.Result.{err_from_is_err_and}
use Rattle.cell_task.specs.State.{seen_as}
use Rattle.cell_world.specs.Commands.Recovery.{recovery_of}
use Rattle.cell_world.specs.Gather.{source_of}
use Rattle.cell_machine.specs.Machine.{world_of}
use Rattle.cell_commands.proofs.Anew.{no_task, none_there, one_at, renewed_so}
use Rattle.cell_commands.proofs.AttachedCells.{all_ordered}
use Rattle.cell_commands.proofs.Found.{first_cell, no_cell}
use Rattle.cell_commands.proofs.recovering.recovery.Goals as goal

pub returns-in_err-task : goal.returns-in_err-task
returns-in_err-task c =
    let p = err_from_is_err_and c.from_residual.result c.from_residual.ensures.1 in
    rw (p.1, p.2) (no_task (map source_of c.args.depot.now) (world_of c.args.machine.now) c.args.number recovery_of c.in_err-task.field-0.0 c.in_err-task.ensures)

pub plan_recovery-requires : goal.plan_recovery-requires
plan_recovery-requires c = all_ordered c.args.machine.now c.requires c.in_ok-cells.cells.items (c.in_ok-cells.ensures {u = tt}) c.deref.result.now c.deref.ensures.value

pub returns-in-Some : goal.returns-in-Some
returns-in-Some c =
    let w = world_of c.args.machine.now in
    let t = seen_as c.args.number c.in_ok-task.task.now in
    let x = first_cell w t.pc c.in_ok-cells.cells.items (c.in_ok-cells.ensures {u = tt}) c.in-Some.cell.now c.deref.result.now c.deref.ensures.value (c.in-Some.ensures {u = tt}) in
    renewed_so (map source_of c.args.depot.now) w c.args.number recovery_of t (c.in_ok-task.ensures {u = tt}) x.cell [] x.taken c.renewing.result
    (c.renewing.ensures w _ (one_at w c.requires.coherent t.pc c.in-Some.cell.now x))

pub returns : goal.returns
returns c =
    let w = world_of c.args.machine.now in
    let t = seen_as c.args.number c.in_ok-task.task.now in
    none_there (map source_of c.args.depot.now) w c.args.number recovery_of t (c.in_ok-task.ensures {u = tt})
    (no_cell w t.pc c.in_ok-cells.cells.items (c.in_ok-cells.ensures {u = tt}) c.deref.result.now c.deref.ensures.value (c.in-None.ensures {u = tt})) c.no_crate.result c.no_crate.ensures
