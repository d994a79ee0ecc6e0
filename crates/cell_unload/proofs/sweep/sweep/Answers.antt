use Rattle.std.proofs.Common.{sym}
use Rattle.std.proofs.lemmas.Result.{err_from_is_err_and}
use Rattle.cell_machine.proofs.Unchanged.{same_itself}
use Rattle.cell_unload.proofs.sweep.sweep.Goals as goal

pub returns-in_err-outlook : goal.returns-in_err-outlook
returns-in_err-outlook c =
    let p = err_from_is_err_and c.from_residual.result c.from_residual.ensures.1 in
    rw (p.1, p.2) (same_itself c.args.machine.now)

pub returns-in_err-kept : goal.returns-in_err-kept
returns-in_err-kept c =
    let p = err_from_is_err_and c.from_residual-in_err-kept.result c.from_residual-in_err-kept.ensures.1 in
    rw (p.1, p.2) (same_itself c.args.machine.now)

pub returns-in_err-removed : goal.returns-in_err-removed
returns-in_err-removed c =
    let p = err_from_is_err_and c.from_residual-in_err-removed.result c.from_residual-in_err-removed.ensures.1 in
    rw (p.1, p.2) (same_itself c.args.machine.now)

pub read-survey-requires-clause-whole : goal.read-survey-requires-clause-whole
read-survey-requires-clause-whole c = record { coherent = c.requires.coherent; parts = c.requires.parts }

pub returns-in-Some : goal.returns-in-Some
returns-in-Some c = (sym (c.in-Some.ensures c.args.aside.now (c.read-survey.ensures c.args.aside.now (c.in_ok-outlook.ensures {u = tt}))), same_itself c.args.machine.now)

pub remove_unkept-requires-clause-survey : goal.remove_unkept-requires-clause-survey
remove_unkept-requires-clause-survey c = record { aside = c.args.aside.now; is = c.read-survey.ensures c.args.aside.now (c.in_ok-outlook.ensures {u = tt}) }

pub returns : goal.returns
returns c =
    let removes = c.remove_unkept.ensures c.args.aside.now (c.read-survey.ensures c.args.aside.now (c.in_ok-outlook.ensures {u = tt})) in
    record { free = sym (c.in_default.ensures c.args.aside.now (c.read-survey.ensures c.args.aside.now (c.in_ok-outlook.ensures {u = tt}))); are = removes.0; left = removes.1 }
