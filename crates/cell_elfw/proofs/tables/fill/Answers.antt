use Rattle.cell_elfw.proofs.Grouped.{put_more}
use Rattle.cell_elfw.proofs.tables.fill.Goals as goal

pub loop-entry-preserved : goal.loop-entry-preserved
loop-entry-preserved c =
    put_more (λ table. table.items) c.args.entries.now c.loop-entry.entry-index _ c.loop-entry.tables c.add.new.tables c.loop-entry-test.true c.add.auto.tables c.loop-entry.invariant c.in_ok-add.ensures
