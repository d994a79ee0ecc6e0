use Rattle.cell_world.specs.Change.{old_of, new_since}
use Rattle.cell_lemmas.specs.Touched.{swap_comers}
use Rattle.cell_lemmas.proofs.Targeting.Affected.{enough_fields, enough_misfits}
use Rattle.cell_change_law.proofs.Untouched.{change_stays}
use Rattle.cell_change_law.proofs.finding.affected_cells_of_change_are_enough.Goals as goal

pub returns-clause-fields : goal.returns-clause-fields
returns-clause-fields k = λ sources v c w sound h good p. enough_fields v w (old_of c) (swap_comers v (old_of c) (new_since v w)) (change_stays sources sound v h c good p.gathered p.gathering w p.placing p.covered)

pub returns-clause-misfit : goal.returns-clause-misfit
returns-clause-misfit k = λ sources v c w sound h good p. enough_misfits v w (old_of c) (swap_comers v (old_of c) (new_since v w)) (change_stays sources sound v h c good p.gathered p.gathering w p.placing p.covered)
