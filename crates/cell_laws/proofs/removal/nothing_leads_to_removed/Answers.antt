use Rattle.cell_lemmas.proofs.Holding.AllKept.{purge_unreached, unload_unreached}
use Rattle.cell_laws.proofs.removal.nothing_leads_to_removed.Goals as goal

pub returns-clause-purge : goal.returns-clause-purge
returns-clause-purge c = purge_unreached

pub returns-clause-unload : goal.returns-clause-unload
returns-clause-unload c = unload_unreached
