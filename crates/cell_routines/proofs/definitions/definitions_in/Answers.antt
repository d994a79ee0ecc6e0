use Rattle.std.proofs.Common.{[], arith, ◌+◌, take}
use Rattle.cell_routines.specs.Begins.{all_rows, definition_rows}
use Rattle.cell_routines.proofs.DefinitionRows.{cells_more, one_more}
use Rattle.cell_routines.proofs.definitions.definitions_in.Goals as goal

pub loop-cell-preserved : goal.loop-cell-preserved
loop-cell-preserved c =
    let cells = c.args.cells.now in
    let i = c.loop-cell.cell-index in
    let cell = c.cell-item.result in
    one_more [] c.loop-cell.table c.add_cell.new.table (all_rows (take i cells)) (definition_rows cell cell.object.symbols) (all_rows (take (i + 1) cells)) c.loop-cell.invariant (c.in_ok-add_cell.ensures {u = tt})
    (cells_more cells i cell (omega arith) c.cell-item.is)
