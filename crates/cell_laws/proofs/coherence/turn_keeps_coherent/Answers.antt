use Rattle.cell_lemmas.proofs.Tasks.Turned.{turn_keeps}
use Rattle.cell_laws.proofs.coherence.turn_keeps_coherent.Goals as goal

pub returns : goal.returns
returns c = turn_keeps
