use Rattle.cell_change_law.proofs.Asking.{cloned}
use Rattle.cell_isolation_laws.proofs.cloning.clones_are_changes.Goals as goal

pub returns : goal.returns
returns c = cloned
