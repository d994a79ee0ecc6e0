use Rattle.cell_change_law.proofs.Asking.{cloned}
use Rattle.cell_isolation_laws.proofs.Keeping.{clone_keeps}
use Rattle.cell_isolation_laws.proofs.cloning.cloning_keeps_targets.Goals as goal

pub returns : goal.returns
returns c sources w name sibling d sound h e = clone_keeps sources sound w h name sibling d (cloned sources w name sibling d e)
