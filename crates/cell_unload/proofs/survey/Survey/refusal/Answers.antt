use Rattle.std.proofs.Common.{◌∙◌, ap, Some, None}
use Rattle.cell_unload.proofs.Surveyed.{holder_by, refusal_by}
use Rattle.cell_unload.proofs.survey.Survey.refusal.Goals as goal

pub returns-in_err-holder : goal.returns-in_err-holder
returns-in_err-holder c = λ aside survey.
    c.from_residual.ensures
    ∙ refusal_by c.args.machine.now aside c.args.self.now survey c.args.cell.0 None c.if-not-keeps.ensures
    (holder_by c.args.machine.now aside c.args.self.now survey c.deref.result.now c.deref-2.result.now c.deref.ensures.value c.deref-2.ensures.value c.args.cell.0 None c.in_err-holder.ensures)

pub returns : goal.returns
returns c = λ aside survey.
    ap (λ r. Some r) c.held.ensures
    ∙ refusal_by c.args.machine.now aside c.args.self.now survey c.args.cell.0 (Some c.in_ok-holder.holder) c.if-not-keeps.ensures
    (holder_by c.args.machine.now aside c.args.self.now survey c.deref.result.now c.deref-2.result.now c.deref.ensures.value c.deref-2.ensures.value c.args.cell.0 (Some c.in_ok-holder.holder) c.in_ok-holder.ensures)
