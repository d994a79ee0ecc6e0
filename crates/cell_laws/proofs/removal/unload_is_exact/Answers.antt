use Rattle.cell_lemmas.proofs.Holding.Removals.{unload_accepted}
use Rattle.cell_laws.proofs.removal.unload_is_exact.Goals as goal

pub returns : goal.returns
returns c w names cells h n = unload_accepted w h cells names n
