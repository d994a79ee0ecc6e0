use Rattle.std.proofs.Common.{arith}
use Rattle.cell_plan.proofs.Stepping.{front_left, front_past, front_taken}
use Rattle.cell_plan.proofs.steps.next_link.Goals as goal

pub returns-then-place-links-clause-link : goal.returns-then-place-links-clause-link
returns-then-place-links-clause-link c = (front_past c.args.links.now c.args.place c.args.entry (omega (arith, c.if-place-links.true))).0

pub returns-then-place-links-clause-rest : goal.returns-then-place-links-clause-rest
returns-then-place-links-clause-rest c = (front_past c.args.links.now c.args.place c.args.entry (omega (arith, c.if-place-links.true))).1

pub returns-then-link-entry-clause-link : goal.returns-then-link-entry-clause-link
returns-then-link-entry-clause-link c =
    (front_taken c.args.links.now c.args.place c.args.entry (omega (arith, c.if-place-links.false, c.requires)) _ c.if-link-entry.true).0

pub returns-then-link-entry-clause-rest : goal.returns-then-link-entry-clause-rest
returns-then-link-entry-clause-rest c =
    (front_taken c.args.links.now c.args.place c.args.entry (omega (arith, c.if-place-links.false, c.requires)) _ c.if-link-entry.true).1

pub returns-else-link-entry-clause-link : goal.returns-else-link-entry-clause-link
returns-else-link-entry-clause-link c =
    (front_left c.args.links.now c.args.place c.args.entry (omega (arith, c.if-place-links.false, c.requires)) _ c.if-link-entry.false).0

pub returns-else-link-entry-clause-rest : goal.returns-else-link-entry-clause-rest
returns-else-link-entry-clause-rest c =
    (front_left c.args.links.now c.args.place c.args.entry (omega (arith, c.if-place-links.false, c.requires)) _ c.if-link-entry.false).1
