use Rattle.cell_got.specs.Lower.{lowered_entry}
use Rattle.cell_got.proofs.Adding.{mapped_on}
use Rattle.cell_got.proofs.lowering.lower_entries.Goals as goal

pub loop-entry-preserved : goal.loop-entry-preserved
loop-entry-preserved c =
    mapped_on (lowered_entry c.args.first c.args.slots.now.symbols.items) c.deref_mut-entry-items.result.now c.loop-entry.entry-items c.loop-entry.entry-index _ c.lower_entry.new.entry
    c.loop-entry-test.true c.loop-entry.invariant c.lower_entry.ensures
