use Rattle.std.proofs.Common.{sym, ◌∙◌}
use Rattle.cell_world.specs.declared.state.Target.TheVariants.{Number}
use Rattle.cell_link.proofs.ScanLemmas.{high_apart, high_here, high_nowhere}
use Rattle.cell_link.proofs.one_field.Table.high_at.Goals as goal

pub returns-then-is_high_at : goal.returns-then-is_high_at
returns-then-is_high_at c =
    rw c.operands.ensures (high_here c.args.self.now.cell.now c.args.self.now.targets.now c.as_slice-entries.result.now c.loop-index.index _ _ c.args.label c.as_slice-entries.ensures c.loop-index-test.true c.args.self.now.each c.loop-index.invariant (sym c.is_high_at.ensures ∙ c.if-is_high_at.true))

pub loop-index-preserved : goal.loop-index-preserved
loop-index-preserved c =
    high_apart c.args.self.now.cell.now c.args.self.now.targets.now c.as_slice-entries.result.now c.loop-index.index _ (Number 0) c.args.label c.as_slice-entries.ensures c.loop-index-test.true c.args.self.now.each c.loop-index.invariant (sym c.is_high_at.ensures ∙ c.if-is_high_at.false)

pub returns : goal.returns
returns c =
    high_nowhere c.args.self.now.cell.now c.args.self.now.targets.now c.as_slice-entries.result.now c.loop-index.index c.args.label c.as_slice-entries.ensures c.loop-index-test.false c.loop-index.invariant
