use Rattle.cell_lemmas.proofs.Naming.Attaching.{attached_changes_soft}
use Rattle.cell_laws.proofs.relinking.attaching_changes_soft_entries.Goals as goal

pub returns : goal.returns
returns c = attached_changes_soft
