use Rattle.std.proofs.Common.{◌≡◌, sym, ◌∙◌, ap, arith, subst, ℕ, length, map, vec_len, Bor, List}
use Rattle.std.specs.Prelude.{◌==◌}
use Rattle.std.proofs.lemmas.Result.{err_from_is_err_and}
use Rattle.cell_task.specs.State.{seen_as}
use Rattle.cell_world.specs.Commands.Recovery.{rebuild_of}
use Rattle.cell_world.specs.Gather.{source_of}
use Rattle.cell_world.specs.declared.state.NewCell.{NewCell}
use Rattle.cell_machine.specs.Machine.{world_of}
use Rattle.cell_commands.specs.Renewals.{AsksRenewals}
use Rattle.cell_commands.proofs.Anew.{no_task, none_there}
use Rattle.cell_commands.proofs.HeldCells.{none_held, still_live, with_held}
use Rattle.cell_commands.proofs.recovering.rebuilding.Goals as goal

pub returns-in_err-task : goal.returns-in_err-task
returns-in_err-task c =
    let p = err_from_is_err_and c.from_residual.result c.from_residual.ensures.1 in
    rw (p.1, p.2) (no_task (map source_of c.args.depot.now) (world_of c.args.machine.now) c.args.number rebuild_of c.in_err-task.field-0.0 c.in_err-task.ensures)

pub held_cells-requires-clause-live : goal.held_cells-requires-clause-live
held_cells-requires-clause-live c = still_live (world_of c.args.machine.now) c.args.number (seen_as c.args.number c.in_ok-task.task.now) (c.in_ok-task.ensures {u = tt})

pub returns-then-is_empty : goal.returns-then-is_empty
returns-then-is_empty c =
    let w = world_of c.args.machine.now in
    let t = seen_as c.args.number c.in_ok-task.task.now in
    let many : length c.in_ok-cells.cells.items ≡ vec_len c.in_ok-cells.cells = omega arith in
    none_there (map source_of c.args.depot.now) w c.args.number rebuild_of t (c.in_ok-task.ensures {u = tt})
    (none_held (rebuild_of w t) c.in_ok-cells.cells.items (c.in_ok-cells.ensures {u = tt}) (ap (λ (n : ℕ). n == 0) many ∙ (sym c.is_empty.ensures ∙ c.if-is_empty.true))) c.no_crate.result c.no_crate.ensures

pub returns : goal.returns
returns c =
    let w = world_of c.args.machine.now in
    let t = seen_as c.args.number c.in_ok-task.task.now in
    let many : length c.in_ok-cells.cells.items ≡ vec_len c.in_ok-cells.cells = omega arith in
    with_held (map source_of c.args.depot.now) w c.requires.coherent c.args.number t (c.in_ok-task.ensures {u = tt}) c.in_ok-cells.cells.items (c.in_ok-cells.ensures {u = tt}) (ap (λ (n : ℕ). n == 0) many ∙ (sym c.is_empty.ensures ∙ c.if-is_empty.false))
    c.renewing.result (subst (λ (cs : List (Bor NewCell)). AsksRenewals (map source_of c.args.depot.now) (map (λ x. x.now) cs) c.args.number c.renewing.result) c.deref.ensures.value c.renewing.ensures)
