use Rattle.cell_unload.specs.Sweep.{holding_in}
use Rattle.cell_unload.proofs.Firsts.{ended, held_first, held_later}
use Rattle.cell_unload.proofs.survey.Survey.first_held.Goals as goal

pub returns-in-Some : goal.returns-in-Some
returns-in-Some c aside survey =
    held_first (holding_in c.args.machine.now aside) c.args.cells.now c.loop-cell.cell-index (record { 0 = 0 }) c.in-Some.refusal c.loop-cell-test.true
    (c.in-Some.ensures aside survey) (c.loop-cell.invariant aside survey)

pub loop-cell-preserved : goal.loop-cell-preserved
loop-cell-preserved c aside survey =
    held_later (holding_in c.args.machine.now aside) c.args.cells.now c.loop-cell.cell-index (record { 0 = 0 }) c.loop-cell-test.true
    (c.in_default.ensures aside survey) (c.loop-cell.invariant aside survey)

pub returns : goal.returns
returns c aside survey = ended (holding_in c.args.machine.now aside) c.args.cells.now c.loop-cell.cell-index c.loop-cell-test.false (c.loop-cell.invariant aside survey)
