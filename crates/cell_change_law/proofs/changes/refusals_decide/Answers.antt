use Rattle.std.proofs.Common.{◌∙◌, ap, Option, Ok}
use Rattle.cell_world.specs.Change.{new_since, restarted_task}
use Rattle.cell_world.specs.Changed.{changed_fields}
use Rattle.cell_world.specs.Outcome.{◌>>◌, refused_by}
use Rattle.cell_world.specs.Linked.Relink.{relink}
use Rattle.cell_world.specs.Commands.SwapTransfer.{routines_in}
use Rattle.cell_world.specs.declared.refusal.Refusal.{Refusal}
use Rattle.cell_change_law.proofs.Answered.{has_answered}
use Rattle.cell_change_law.proofs.Planning.{plan_is, restart_refused, uncovered_refused}
use Rattle.cell_change_law.proofs.Torn.{torn_inside}
use Rattle.cell_change_law.proofs.changes.refusals_decide.Goals as goal

pub returns-clause-uncovered : goal.returns-clause-uncovered
returns-clause-uncovered k = λ sources v c g need gathering e. uncovered_refused sources v c g gathering need e

pub returns-clause-restart : goal.returns-clause-restart
returns-clause-restart k = λ sources v c g begins refusal gathering covered b r. restart_refused sources v c g gathering covered begins b refusal r

pub returns-clause-refused : goal.returns-clause-refused
returns-clause-refused k = λ sources v c w p begins stack refusal b r s e.
    plan_is sources v c w p begins stack b r s
    ∙ ap (λ (o : Option Refusal). refused_by o >> Ok (record { fresh = new_since v w; changed = changed_fields v w; linked = relink w; stack = stack; routines = routines_in w begins; restarted = restarted_task v c w })) e

pub returns-clause-planned : goal.returns-clause-planned
returns-clause-planned k = λ sources v c w p begins stack b r s e.
    plan_is sources v c w p begins stack b r s
    ∙ ap (λ (o : Option Refusal). refused_by o >> Ok (record { fresh = new_since v w; changed = changed_fields v w; linked = relink w; stack = stack; routines = routines_in w begins; restarted = restarted_task v c w })) e

pub returns-clause-answered : goal.returns-clause-answered
returns-clause-answered k = has_answered

pub returns-clause-torn : goal.returns-clause-torn
returns-clause-torn k = λ sources v c task cell section offset. torn_inside task cell section offset sources v c
