use Rattle.std.proofs.Common.{sym, subst}
use Rattle.cell_world.specs.Coherent.{IsCoherent}
use Rattle.cell_lemmas.proofs.Tasks.Turns.{turns_coherent, transfer_end}
use Rattle.cell_laws.proofs.transfer.transfer_keeps_coherent.Goals as goal

pub returns-clause-turns : goal.returns-clause-turns
returns-clause-turns c n w stack addresses routines h run = turns_coherent w h stack run n addresses routines

pub returns-clause-end : goal.returns-clause-end
returns-clause-end c n w v stack addresses routines h run e = subst IsCoherent (sym (transfer_end n w v stack addresses routines e)) (turns_coherent w h stack run n addresses routines)
