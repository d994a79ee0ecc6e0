use Rattle.std.proofs.Common.{◌≡◌, refl, ◌∙◌, ap, sym, Some}
use Rattle.std.specs.Prelude.{◌==◌, find}
use Rattle.cell_world.specs.declared.state.NewCell.{NewCell}
use Rattle.cell_change.proofs.copying.original.Goals as goal

pub returns : goal.returns
returns c =
    let found : Some c.in-Some.cell.now ≡ find (λ (x : NewCell). x.id.0 == c.args.copy.now.original.0) c.args.machine.now.cells.items =
    c.in-Some.ensures {u = tt} ∙ ap (find (λ (x : NewCell). x.id.0 == c.args.copy.now.original.0)) c.deref.ensures.value in
    record { cell = sym found; names = c.names.ensures; space = refl }
