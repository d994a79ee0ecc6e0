use Rattle.std.proofs.lemmas.Result.{err_from_is_err_and}
use Rattle.cell_change.proofs.Arrival.ChangeEnded.{failed_so}
use Rattle.cell_change.proofs.Arrival.Tried.{can_renew, can_settle}
use Rattle.cell_change.proofs.entering.try_new_cells.Goals as goal

pub enter-requires : goal.enter-requires
enter-requires c = record { asked = c.args.asked.now; rest = c.requires.can.rest; can = c.requires.can.can }

pub returns-in_err-outlook : goal.returns-in_err-outlook
returns-in_err-outlook c t =
    let p = err_from_is_err_and c.from_residual.result c.from_residual.ensures.1 in
    let e = c.in_err-outlook.ensures (record { asked = c.args.asked.now; rest = t.rest; can = t.can }) in
    rw (p.1, p.2) (failed_so t.can _ e.0, e.1)

pub renew-requires-clause-can : goal.renew-requires-clause-can
renew-requires-clause-can c =
    can_renew c.requires.can c.in_ok-outlook.outlook c.enter.new.machine (c.in_ok-outlook.ensures (record { asked = c.args.asked.now; rest = c.requires.can.rest; can = c.requires.can.can })) c.in-Some.again c.in-Some.is

pub settle-requires-clause-can : goal.settle-requires-clause-can
settle-requires-clause-can c =
    can_settle c.requires.can c.in_ok-outlook.outlook c.enter.new.machine (c.in_ok-outlook.ensures (record { asked = c.args.asked.now; rest = c.requires.can.rest; can = c.requires.can.can })) c.in-None.is

pub returns-in-Some : goal.returns-in-Some
returns-in-Some c t =
    c.renew.ensures (can_renew t c.in_ok-outlook.outlook c.enter.new.machine (c.in_ok-outlook.ensures (record { asked = c.args.asked.now; rest = t.rest; can = t.can })) c.in-Some.again c.in-Some.is)

pub returns-in-None : goal.returns-in-None
returns-in-None c t =
    c.settle.ensures (can_settle t c.in_ok-outlook.outlook c.enter.new.machine (c.in_ok-outlook.ensures (record { asked = c.args.asked.now; rest = t.rest; can = t.can })) c.in-None.is)
