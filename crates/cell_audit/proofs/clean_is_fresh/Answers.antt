use Rattle.cell_audit.proofs.Clean.{clean_fresh, fresh_clean}
use Rattle.cell_audit.proofs.clean_is_fresh.Goals as goal

pub returns-clause-clean : goal.returns-clause-clean
returns-clause-clean c = clean_fresh

pub returns-clause-fresh : goal.returns-clause-fresh
returns-clause-fresh c = fresh_clean
