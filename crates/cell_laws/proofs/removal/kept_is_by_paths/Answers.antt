use Rattle.cell_lemmas.proofs.Holding.KeptPaths.{kept_by_paths, kept_order, kept_rises}
use Rattle.cell_laws.proofs.removal.kept_is_by_paths.Goals as goal

pub returns-clause-paths : goal.returns-clause-paths
returns-clause-paths c = kept_by_paths

pub returns-clause-order : goal.returns-clause-order
returns-clause-order c = kept_order

pub returns-clause-rises : goal.returns-clause-rises
returns-clause-rises c = kept_rises
