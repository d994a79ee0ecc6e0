use Rattle.std.proofs.Common.{Err}
use Rattle.cell_run.proofs.driving.count_answer.Goals as goal

pub returns-in-Err-Refused-clause-counted : goal.returns-in-Err-Refused-clause-counted
returns-in-Err-Refused-clause-counted g c =
    let acted = rw c.in-Err-Refused.field-0-is at c.in-Err-Refused.ensures in
    record { answer = Err c.in-Err-Refused._refusal; acted = acted.0; counted = c.add_refusal.ensures c.in-Err-Refused._refusal }
