use Rattle.cell_view.proofs.CellLines.{line_by_place}
use Rattle.cell_view.proofs.all_cells.cell_line.Goals as goal

pub returns : goal.returns
returns c = λ d i same. line_by_place d c.args.cell.now same _ _ _ _ _ c.from.ensures c.from-2.ensures c.in_ok-copy.ensures c.in_ok-copy-2.ensures (c.group_of.ensures d i same)
