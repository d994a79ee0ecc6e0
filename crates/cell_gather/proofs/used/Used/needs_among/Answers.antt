use Rattle.std.proofs.Common.{arith}
use Rattle.cell_gather.specs.Appending.{is_need, needs_from}
use Rattle.cell_gather.proofs.Symbols.{at_end, its_name, one_taken}
use Rattle.cell_gather.proofs.used.Used.needs_among.Goals as goal

pub loop-place-preserved : goal.loop-place-preserved
loop-place-preserved c =
    one_taken (is_need c.args.self.now.object.now) its_name c.args.symbols.now c.loop-place.place c.index-symbols-place.result c.loop-place.names.items c.add_need.new.names.items (needs_from c.args.self.now.object.now 1 c.args.symbols.now)
    (omega arith) c.index-symbols-place.is (c.in_ok-add_need.ensures {u = tt}) c.loop-place.invariant

pub returns : goal.returns
returns c =
    at_end (is_need c.args.self.now.object.now) its_name c.args.symbols.now c.loop-place.place c.loop-place.names.items (needs_from c.args.self.now.object.now 1 c.args.symbols.now) (omega arith) c.loop-place.invariant
