use Rattle.cell_plan.proofs.Lacking.{lost_nothing}
use Rattle.cell_plan.proofs.coverage.check_cell.Goals as goal

pub returns-then-has_all-clause-covers : goal.returns-then-has_all-clause-covers
returns-then-has_all-clause-covers c = λ w ahead. lost_nothing w c.args.ahead.now ahead c.args.cell.now c.args.state (c.has_all.ensures.all c.if-has_all.true)
