use Rattle.cell_lemmas.proofs.Tasks.Commands.{step_cells, run_cells, kill_cells}
use Rattle.cell_laws.proofs.turns.tasks_change_no_cell.Goals as goal

pub returns-clause-step : goal.returns-clause-step
returns-clause-step c = step_cells

pub returns-clause-run : goal.returns-clause-run
returns-clause-run c = run_cells

pub returns-clause-kill : goal.returns-clause-kill
returns-clause-kill c = kill_cells
