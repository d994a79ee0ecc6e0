use Rattle.cell_load.proofs.RowLemmas.{rows_next}
use Rattle.cell_load.proofs.rows.rows.Goals as goal

pub loop-index-preserved : goal.loop-index-preserved
loop-index-preserved c =
    rows_next c.args.cell.now c.args.cell.now.object.entries c.args.targets.now c.requires.each c.as_slice-entries.result.now c.as_slice-entries.ensures c.loop-index.index _ _ c.link_row-row.result c.loop-index.rows.items
    c.add_row.new.rows.items _ c.loop-index-test.true c.link_row-row.ensures (c.in_ok-add_row.ensures {u = tt}) c.loop-index.invariant
