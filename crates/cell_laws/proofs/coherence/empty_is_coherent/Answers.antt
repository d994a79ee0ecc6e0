use Rattle.cell_lemmas.proofs.NextCoherent.{empty_coherent}
use Rattle.cell_laws.proofs.coherence.empty_is_coherent.Goals as goal

pub returns : goal.returns
returns c = empty_coherent
