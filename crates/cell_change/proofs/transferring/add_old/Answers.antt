use Rattle.std.proofs.Common.{◌≡◌, ◌∙◌, ap, sym, subst, ℕ, List, ◌++◌, Some}
use Rattle.std.specs.Prelude.{◌==◌, OnOk, find}
use Rattle.cell_num.proofs.Elements.{found-In}
use Rattle.cell_world.specs.declared.state.NewCell.{NewCell}
use Rattle.cell_xfer.specs.Named.{AnswersAs}
use Rattle.cell_change.proofs.Decision.Rows.{rows_found}
use Rattle.cell_change.proofs.transferring.add_old.Goals as goal

pub add_addresses-requires : goal.add_addresses-requires
add_addresses-requires c =
    let found : Some c.in-Some.cell.now ≡ find (λ (x : NewCell). x.id.0 == c.args.old.0) c.args.machine.now.cells.items =
    c.in-Some.ensures {u = tt} ∙ ap (find (λ (x : NewCell). x.id.0 == c.args.old.0)) c.deref.ensures.value in
    c.requires.low c.in-Some.cell.now (found-In (λ (x : NewCell). x.id.0 == c.args.old.0) c.args.machine.now.cells.items c.in-Some.cell.now (sym found)).0

pub returns : goal.returns
returns c =
    let found : Some c.in-Some.cell.now ≡ find (λ (x : NewCell). x.id.0 == c.args.old.0) c.args.machine.now.cells.items =
    c.in-Some.ensures {u = tt} ∙ ap (find (λ (x : NewCell). x.id.0 == c.args.old.0)) c.deref.ensures.value in
    subst (λ (rows : List (List ℕ × ℕ)). OnOk c.add_addresses.result (AnswersAs c.add_addresses.new.table (c.args.table.now ++ rows)))
    (rows_found c.args.machine.now c.args.old c.in-Some.cell.now c.names.result.now found c.names.ensures) c.add_addresses.ensures
