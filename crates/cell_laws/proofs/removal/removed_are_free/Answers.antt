use Rattle.cell_lemmas.proofs.Holding.Removals.{garbage_all, purge_leaves, unload_leaves, unloaded_by}
use Rattle.cell_laws.proofs.removal.removed_are_free.Goals as goal

pub returns-clause-garbage : goal.returns-clause-garbage
returns-clause-garbage c = garbage_all

pub returns-clause-purge : goal.returns-clause-purge
returns-clause-purge c = purge_leaves

pub returns-clause-unload : goal.returns-clause-unload
returns-clause-unload c w names cells d h n e = unload_leaves w h cells d (unloaded_by w names cells d n e)
