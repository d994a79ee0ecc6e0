use Rattle.std.proofs.Common.{arith}
use Rattle.cell_space.proofs.Steps.{all_lower, none_lower}
use Rattle.cell_space.proofs.lookup.cells_before.Goals as goal

pub loop-step-preserved : goal.loop-step-preserved
loop-step-preserved c = record {
  some = omega arith;
  within = omega arith;
  rest = none_lower c.args.cells.now c.args.number _ c.index-cells-low.result c.requires (omega (arith, c.loop-step.invariant.within, c.loop-step.invariant.some)) c.if-cells-low.false;
}

pub cells_between-requires-clause-before : goal.cells_between-requires-clause-before
cells_between-requires-clause-before c =
    all_lower c.args.cells.now c.args.number _ c.index-cells-low.result c.requires (omega (arith, c.loop-step.invariant.within, c.loop-step.invariant.some)) c.if-cells-low.true
