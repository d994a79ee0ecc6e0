use Rattle.cell_lemmas.proofs.Placement.Tables.{run_inside, run_clear}
use Rattle.cell_laws.proofs.room.lowest_run_is_clear.Goals as goal

pub returns-clause-inside : goal.returns-clause-inside
returns-clause-inside c = run_inside

pub returns-clause-clear : goal.returns-clause-clear
returns-clause-clear c = run_clear
