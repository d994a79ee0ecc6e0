use Rattle.cell_got.proofs.AskedSlots.{few_on, slots_on}
use Rattle.cell_got.proofs.asked.Slots.of.Goals as goal

pub loop-index-preserved : goal.loop-index-preserved
loop-index-preserved c =
    let xs = c.args.entries.now in
    let i = c.loop-index.index in
    let far = c.loop-index.invariant in
    let taken = c.in_ok-take_in.ensures in
    record {
      symbols = slots_on xs i _ c.loop-index.slots.symbols.items c.take_in.new.self.symbols.items taken.symbols c.loop-index-test.true far.symbols;
      are = taken.are;
      few = few_on xs i _ c.loop-index.slots.symbols.items c.take_in.new.self.symbols.items taken.symbols far.few;
    }
