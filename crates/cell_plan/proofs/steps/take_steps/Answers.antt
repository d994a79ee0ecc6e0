use Rattle.cell_plan.proofs.Stepping.{links_taken, marks_taken, none_taken, taken_more}
use Rattle.cell_plan.proofs.steps.take_steps.Goals as goal

pub next_link-before-requires : goal.next_link-before-requires
next_link-before-requires c = c.loop-index.invariant.within

pub loop-index-init : goal.loop-index-init
loop-index-init c = none_taken c.args.cell.now c.args.targets.now c.args.links.now c.args.into.now _ c.clear.ensures.items

pub loop-index-preserved : goal.loop-index-preserved
loop-index-preserved c =
    taken_more c.args.cell.now c.args.targets.now c.args.links.now c.args.into.now c.requires.each c.loop-index.index c.loop-index.place c.loop-index.marks.items c.loop-index.into c.loop-index.invariant
    c.as_slice-entries.result.now c.as_slice-entries.ensures c.loop-index-test.true _ _
    c.next_link-before.result.0 c.link_row-after.result c.next_link-before.result.1 c.in_ok-change.change c.push.new.self.items c.add_step.new.into
    c.next_link-before.ensures.link c.next_link-before.ensures.rest c.next_link-before.ensures.within c.link_row-after.ensures c.in_ok-change.ensures.change c.in_ok-push.ensures.items c.in_ok-change.ensures.links

pub returns-clause-marks : goal.returns-clause-marks
returns-clause-marks c = marks_taken c.args.cell.now c.args.targets.now c.args.links.now c.args.into.now c.requires.each c.loop-index.index c.loop-index.place c.loop-index.marks.items c.loop-index.into c.loop-index.invariant c.as_slice-entries.result.now c.as_slice-entries.ensures c.loop-index-test.false

pub returns-clause-links : goal.returns-clause-links
returns-clause-links c = links_taken c.args.cell.now c.args.targets.now c.args.links.now c.args.into.now c.requires.each c.loop-index.index c.loop-index.place c.loop-index.marks.items c.loop-index.into c.loop-index.invariant c.as_slice-entries.result.now c.as_slice-entries.ensures c.loop-index-test.false
