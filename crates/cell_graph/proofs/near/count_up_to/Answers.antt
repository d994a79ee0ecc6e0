use Rattle.std.proofs.Common.{arith, length, refl}
use Rattle.cell_graph.proofs.Nearby.{one_more, ends_here, none_above}
use Rattle.cell_graph.proofs.near.count_up_to.Goals as goal

pub loop-index-preserved : goal.loop-index-preserved
loop-index-preserved c = one_more c.args.list.now c.args.cell.0 c.requires c.loop-index.index _ (omega arith) c.if-list-index.false c.loop-index.invariant

pub returns-then-list-index-clause-cut : goal.returns-then-list-index-clause-cut
returns-then-list-index-clause-cut c = ends_here c.args.list.now c.args.cell.0 c.requires c.loop-index.index _ (omega arith) c.if-list-index.true c.loop-index.invariant

pub returns-clause-cut : goal.returns-clause-cut
returns-clause-cut c = none_above c.args.list.now c.args.cell.0 c.requires (length c.args.list.now) refl (λ k d lt. c.loop-index.invariant k d (omega (arith, lt)))
