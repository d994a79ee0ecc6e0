use Rattle.std.proofs.Common.{◌∙◌, sym}
use Rattle.std.proofs.lemmas.Result.{err_from_is_err_and}
use Rattle.cell_task.specs.State.{seen_as}
use Rattle.cell_change.specs.Asking.{restart_by}
use Rattle.cell_change.proofs.Decision.Naming.{begins_then, known_there, none_live, none_named, refused_then}
use Rattle.cell_change.proofs.restarting.begin_again.Goals as goal

pub returns-in_default : goal.returns-in_default
returns-in_default c w is = none_named w c.args.machine.now.tasks (restart_by c.args.options.now.ending) (sym c.restarts.ensures ∙ c.in_default.is)

pub returns-in_default-get : goal.returns-in_default-get
returns-in_default-get c w is = none_live w c.args.machine.now.tasks (restart_by c.args.options.now.ending) c.in-Some.task (sym c.restarts.ensures ∙ c.in-Some.is) (c.in_default-get.ensures {u = tt})

pub has_entry-requires : goal.has_entry-requires
has_entry-requires c =
    known_there c.args.machine.now c.args.gathered.now c.requires c.in-Some.task (seen_as c.in-Some.task c.in-Some-get.live.now) (c.in-Some-get.ensures {u = tt})

pub returns-in_err-has : goal.returns-in_err-has
returns-in_err-has c =
    let p = err_from_is_err_and c.from_residual.result c.from_residual.ensures.1 in
    rw (p.1, p.2) (λ w is. tt)

pub returns-then-has : goal.returns-then-has
returns-then-has c w is =
    begins_then w c.args.machine.now c.args.gathered.now is (restart_by c.args.options.now.ending) c.in-Some.task (sym c.restarts.ensures ∙ c.in-Some.is) (seen_as c.in-Some.task c.in-Some-get.live.now) (c.in-Some-get.ensures {u = tt})
    c.in_ok-has.has (c.in_ok-has.ensures {u = tt}) c.if-has.true

pub returns-in_err-no_entry : goal.returns-in_err-no_entry
returns-in_err-no_entry c =
    let p = err_from_is_err_and c.from_residual-in_err-no_entry.result c.from_residual-in_err-no_entry.ensures.1 in
    rw (p.1, p.2) (λ w is. tt)

pub returns : goal.returns
returns c w is =
    refused_then w c.args.machine.now c.args.gathered.now is (restart_by c.args.options.now.ending) c.in-Some.task (sym c.restarts.ensures ∙ c.in-Some.is) (seen_as c.in-Some.task c.in-Some-get.live.now) (c.in-Some-get.ensures {u = tt})
    c.in_ok-has.has (c.in_ok-has.ensures {u = tt}) c.if-has.false c.in_ok-no_entry.field-0 (c.in_ok-no_entry.ensures {u = tt})
