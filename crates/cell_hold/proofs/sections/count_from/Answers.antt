use Rattle.std.proofs.Common.{arith, length, refl}
use Rattle.cell_hold.proofs.Cutting.{one_more, ends_here, none_above, lower_first}
use Rattle.cell_hold.proofs.sections.count_from.Goals as goal

pub loop-index-init : goal.loop-index-init
loop-index-init c = lower_first c.args.places.now c.args.cell.0 c.requires.rising c.args.start c.requires.bound c.requires.lower

pub loop-index-preserved : goal.loop-index-preserved
loop-index-preserved c = one_more c.args.places.now c.args.cell.0 c.requires.rising c.loop-index.index _ (omega arith) c.if-places-index.false c.loop-index.invariant

pub returns-then-places-index-clause-up_to : goal.returns-then-places-index-clause-up_to
returns-then-places-index-clause-up_to c = ends_here c.args.places.now c.args.cell.0 c.requires.rising c.loop-index.index _ (omega arith) c.if-places-index.true c.loop-index.invariant

pub returns-clause-up_to : goal.returns-clause-up_to
returns-clause-up_to c =
    none_above c.args.places.now c.args.cell.0 c.requires.rising (length c.args.places.now) refl (λ k d lt. c.loop-index.invariant k d (omega (arith, lt, c.loop-index-test.false)))
