use Rattle.std.proofs.lemmas.Result.{on_ok_weaker}
use Rattle.cell_view.proofs.CellLines.{cell_added}
use Rattle.cell_view.proofs.PresentCells.{can_show}
use Rattle.cell_view.proofs.all_cells.add_cell.Goals as goal

pub add_places-requires : goal.add_places-requires
add_places-requires c = (can_show c.args.machine.now c.requires.sound c.args.cell.now c.requires.there).ordered

pub returns : goal.returns
returns c =
    on_ok_weaker c.add_aliases.result
    (λ added. λ d i same.
    cell_added d c.args.cell.now same c.in_ok-cell_line.field-0 c.args.lines.now.items _ _ _ (c.in_ok-cell_line.ensures d i same) c.in_ok-push.ensures.items c.in_ok-add_places.ensures (added d i same))
    c.add_aliases.ensures
