use Rattle.std.proofs.Common.{◌≡◌, sym, ◌∙◌, ap, subst, List, map, Ok}
use Rattle.std.proofs.lemmas.Result.{err_from_is_err_and}
use Rattle.cell_num.specs.declared.ids.CellId.{CellId}
use Rattle.cell_world.specs.declared.reply.Reply.TheVariants.{Unload as UnloadDone}
use Rattle.cell_world.specs.Commands.UnloadCommand.{next_unload}
use Rattle.cell_machine.specs.Does.{HasDone}
use Rattle.cell_machine.specs.Machine.{world_of}
use Rattle.cell_unload.specs.Sweep.{cells_numbered}
use Rattle.cell_unload.proofs.Swept.{unload_done, unload_failed, unload_unnamed}
use Rattle.cell_unload.proofs.unloading.unload.Goals as goal

pub returns-in_err-cells : goal.returns-in_err-cells
returns-in_err-cells c =
    let p = err_from_is_err_and c.from_residual.result c.from_residual.ensures.1 in
    rw (p.1, p.2) (unload_unnamed c.args.machine.now c.requires c.args.names.now c.in_err-cells.field-0.0 c.in_err-cells.ensures)

pub returns-in_err-removed : goal.returns-in_err-removed
returns-in_err-removed c =
    let p = err_from_is_err_and c.from_residual-in_err-removed.result c.from_residual-in_err-removed.ensures.1 in
    let named : cells_numbered (world_of c.args.machine.now) c.args.names.now ≡ Ok (map (λ (x : CellId). x.0) c.deref.result.now) =
    c.in_ok-cells.ensures ∙ ap (λ (cells : List CellId). Ok (map (λ (x : CellId). x.0) cells)) (sym c.deref.ensures.value) in
    rw (p.1, p.2) (unload_failed c.args.machine.now c.requires c.args.names.now c.deref.result.now named c.in_err-removed.field-0.0 c.sweep.new.machine c.in_err-removed.ensures)

pub returns : goal.returns
returns c =
    let named : cells_numbered (world_of c.args.machine.now) c.args.names.now ≡ Ok (map (λ (x : CellId). x.0) c.deref.result.now) =
    c.in_ok-cells.ensures ∙ ap (λ (cells : List CellId). Ok (map (λ (x : CellId). x.0) cells)) (sym c.deref.ensures.value) in
    subst (λ (cells : List CellId). HasDone (next_unload (world_of c.args.machine.now) c.args.names.now) 0 c.args.machine.now (UnloadDone cells) c.sweep.new.machine) (sym c.from_vec.ensures)
    (unload_done c.args.machine.now c.requires c.args.names.now c.deref.result.now named c.in_ok-removed.removed.items c.sweep.new.machine c.in_ok-removed.ensures)
