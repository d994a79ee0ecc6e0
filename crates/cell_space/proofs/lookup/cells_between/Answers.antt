use Rattle.std.proofs.Common.{arith}
use Rattle.cell_space.proofs.Steps.{all_lower, none_lower}
use Rattle.cell_space.proofs.lookup.cells_between.Goals as goal

pub loop-from-preserved-then-cells-middle : goal.loop-from-preserved-then-cells-middle
loop-from-preserved-then-cells-middle c = record {
  order = omega arith;
  within = c.loop-from.invariant.within;
  before = all_lower c.args.cells.now c.args.number _ c.index-cells-middle.result c.requires.rising (omega (arith, c.loop-from.invariant.within)) c.if-cells-middle.true;
  rest = c.loop-from.invariant.rest;
}

pub loop-from-preserved : goal.loop-from-preserved
loop-from-preserved c = record {
  order = omega arith;
  within = omega (arith, c.loop-from.invariant.within);
  before = c.loop-from.invariant.before;
  rest = none_lower c.args.cells.now c.args.number _ c.index-cells-middle.result c.requires.rising (omega (arith, c.loop-from.invariant.within)) c.if-cells-middle.false;
}

pub returns : goal.returns
returns c = (λ k d a b. c.loop-from.invariant.before k d b, λ k d a b. c.loop-from.invariant.rest k d (omega (arith, a, c.loop-from.invariant.order)) b)
