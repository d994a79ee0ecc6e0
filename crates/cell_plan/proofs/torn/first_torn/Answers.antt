use Rattle.cell_plan.proofs.Standing.{first_same}
use Rattle.cell_plan.proofs.torn.first_torn.Goals as goal

pub returns : goal.returns
returns c = λ fields ready spans tasks. rw (c.first_among.ensures, spans, tasks) (first_same fields ready)
