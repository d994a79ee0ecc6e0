use Rattle.cell_plan.proofs.Staying.{misfit_changed}
use Rattle.cell_plan.proofs.Stepped.{fields_changed, steps_same}
use Rattle.cell_plan.proofs.laws.links_tell_changes.Goals as goal

pub returns-clause-steps : goal.returns-clause-steps
returns-clause-steps c = steps_same

pub returns-clause-fields : goal.returns-clause-fields
returns-clause-fields c = fields_changed

pub returns-clause-misfit : goal.returns-clause-misfit
returns-clause-misfit c = misfit_changed
