use Rattle.std.proofs.Common.{◌∙◌, sym, ap}
use Rattle.std.specs.Prelude.{option_map}
use Rattle.cell_placed.specs.Keys.{number_in}
use Rattle.cell_world.proofs.InOrder.{none_there, other_there, this_there}
use Rattle.cell_placed.proofs.cells.cell_numbered.Goals as goal

pub returns-in_err-cell : goal.returns-in_err-cell
returns-in_err-cell c =
    ap (option_map (λ d. d.now)) c.from_residual.ensures
    ∙ sym (none_there number_in c.args.number c.args.cells.now c.requires c.cells_before.result c.cells_before.ensures (c.in_err-cell.ensures {u = tt}).lookup.0)

pub returns-then-cell-number : goal.returns-then-cell-number
returns-then-cell-number c =
    let at = (c.in_ok-cell.ensures {u = tt}).lookup in
    sym (other_there number_in c.args.number c.args.cells.now c.requires c.cells_before.result c.cells_before.ensures c.in_ok-cell.cell.now at.0 at.1 c.if-cell-number.true)

pub returns : goal.returns
returns c =
    let at = (c.in_ok-cell.ensures {u = tt}).lookup in
    sym (this_there number_in c.args.number c.args.cells.now c.requires c.cells_before.result c.cells_before.ensures c.in_ok-cell.cell.now at.0 at.1 c.if-cell-number.false)
