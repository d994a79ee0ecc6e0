use Rattle.std.proofs.Common.{◌++◌, refl}
use Rattle.std.specs.Prelude.{flat_map}
use Rattle.cell_view.specs.Whole.{links_shown}
use Rattle.cell_view.proofs.Behind.{pieces_over}
use Rattle.cell_view.proofs.all_links.add_links_of_cells.Goals as goal

pub loop-cell-preserved : goal.loop-cell-preserved
loop-cell-preserved c =
    let shown = links_shown c.args.graph.now.rows in
    pieces_over shown c.args.cells.now c.args.cells.now refl c.loop-cell.cell-index c.cell-item.result c.loop-cell.lines.items _ (c.args.lines.now.items ++ flat_map shown c.args.cells.now)
    c.loop-cell-test.true c.cell-item.is c.in_ok-add_links_of.ensures c.loop-cell.invariant
