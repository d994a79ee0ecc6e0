use Rattle.cell_lemmas.proofs.Holding.Removals.{purge_removed, removed_targets, unload_removed}
use Rattle.cell_laws.proofs.targets.removing_keeps_targets.Goals as goal

pub returns-clause-unload : goal.returns-clause-unload
returns-clause-unload c w names d h e = removed_targets w d.world h (unload_removed w names d h e)

pub returns-clause-purge : goal.returns-clause-purge
returns-clause-purge c w d h e = removed_targets w d.world h (purge_removed w d h e)
