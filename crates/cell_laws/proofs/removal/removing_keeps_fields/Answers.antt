use Rattle.cell_lemmas.proofs.Holding.Removals.{purge_removed, removed_fields, unload_removed}
use Rattle.cell_laws.proofs.removal.removing_keeps_fields.Goals as goal

pub returns-clause-unload : goal.returns-clause-unload
returns-clause-unload c w names d h e = removed_fields w d.world h (unload_removed w names d h e)

pub returns-clause-purge : goal.returns-clause-purge
returns-clause-purge c w d h e = removed_fields w d.world h (purge_removed w d h e)
