use Rattle.cell_change_law.proofs.Asking.{rebuild_taken, recovery_taken}
use Rattle.cell_laws.proofs.Recovered.{runs_once}
use Rattle.cell_laws.proofs.recovery.recovery_takes_attached_cells.Goals as goal

pub returns-clause-recover : goal.returns-clause-recover
returns-clause-recover k = recovery_taken

pub returns-clause-rebuild : goal.returns-clause-rebuild
returns-clause-rebuild k = rebuild_taken

pub returns-clause-one : goal.returns-clause-one
returns-clause-one k w pc c d h i j p q = runs_once w h pc c d i j p q
