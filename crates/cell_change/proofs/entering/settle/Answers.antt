use Rattle.std.proofs.Common.{List, None, Some, subst}
use Rattle.cell_num.specs.declared.ids.CellId.{CellId}
use Rattle.cell_change.specs.Entering.{Reads}
use Rattle.cell_change.proofs.Arrival.ChangeLeft.{ended_so}
use Rattle.cell_change.proofs.Arrival.Tried.{all_there, plain_sequel, tried}
use Rattle.cell_change.proofs.entering.settle.Goals as goal

pub read-survey-requires-clause-whole : goal.read-survey-requires-clause-whole
read-survey-requires-clause-whole c = c.requires.can.entered.entered.whole

pub read-survey-requires-clause-looks : goal.read-survey-requires-clause-looks
read-survey-requires-clause-looks c = rw c.deref.ensures.value c.requires.can.entered.looked

pub read-survey-requires-clause-room : goal.read-survey-requires-clause-room
read-survey-requires-clause-room c = rw c.deref.ensures.value (all_there c.requires.can.entered.entered _ c.requires.can.fits)

pub first_held-requires : goal.first_held-requires
first_held-requires c = subst (λ (old : List CellId). Reads c.args.machine.now old c.read-survey.result) c.deref.ensures.value c.read-survey.ensures

pub returns-in-Some : goal.returns-in-Some
returns-in-Some c e = (ended_so e.can _ e.entered.entered (plain_sequel e.entered e.none) (Some c.in-Some.refusal) c.in-Some.ensures, e.entered.way_back)

pub forget-requires : goal.forget-requires
forget-requires c = c.requires.can.entered.way_back.undo.begun

pub returns : goal.returns
returns c e =
    tried e.entered _ c.forget.ensures _ (subst (λ (old : List CellId). Reads c.args.machine.now old c.read-survey.result) c.deref.ensures.value c.read-survey.ensures)
    (ended_so e.can _ e.entered.entered (plain_sequel e.entered e.none) None c.in_default.ensures)
