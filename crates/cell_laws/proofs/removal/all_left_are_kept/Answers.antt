use Rattle.cell_lemmas.proofs.Holding.AllKept.{purge_keeps, unload_keeps}
use Rattle.cell_laws.proofs.removal.all_left_are_kept.Goals as goal

pub returns-clause-purge : goal.returns-clause-purge
returns-clause-purge c = purge_keeps

pub returns-clause-unload : goal.returns-clause-unload
returns-clause-unload c = unload_keeps
