use Rattle.std.proofs.Common.{arith, ap, length}
use Rattle.cell_plan.proofs.Scanning.{all_fit, scanned_more}
use Rattle.cell_object.specs.declared.object.Entry.{Entry}
use Rattle.cell_plan.proofs.values.scanned.Goals as goal

pub loop-index-preserved : goal.loop-index-preserved
loop-index-preserved c = scanned_more c.args.cell.now c.args.targets.now c.loop-index.index c.loop-index.values.items c.push.new.self.items c.in-Ok.value (omega (arith, ap (length {A = Entry}) c.as_slice-count.ensures)) c.in-Ok.ensures c.loop-index.invariant c.in_ok-push-in-Ok.ensures.items

pub returns-clause-fit : goal.returns-clause-fit
returns-clause-fit c = all_fit c.args.cell.now c.args.targets.now (λ i d lt. c.loop-index.invariant.fit i d (omega (arith, lt, ap (length {A = Entry}) c.as_slice-count.ensures)))
