use Rattle.std.proofs.Common.{sym}
use Rattle.cell_lemmas.proofs.Holding.Removals.{cells_left, unloaded_by}
use Rattle.cell_laws.proofs.removal.unload_is_removal.Goals as goal

pub returns : goal.returns
returns c w names cells d h n e = sym (cells_left w h cells d (unloaded_by w names cells d n e))
