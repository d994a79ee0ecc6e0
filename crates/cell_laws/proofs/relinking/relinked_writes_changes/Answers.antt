use Rattle.cell_lemmas.proofs.Fields.Regrown.{relinked_writes}
use Rattle.cell_lemmas.proofs.Links.Growths.{targets_follow, links_follow}
use Rattle.cell_laws.proofs.relinking.relinked_writes_changes.Goals as goal

pub returns-clause-writes : goal.returns-clause-writes
returns-clause-writes c = relinked_writes

pub returns-clause-targets : goal.returns-clause-targets
returns-clause-targets c = targets_follow

pub returns-clause-links : goal.returns-clause-links
returns-clause-links c = links_follow
