use Rattle.std.proofs.lemmas.Result.{err_from_is_err_and}
use Rattle.cell_machine.proofs.Unchanged.{same_itself}
use Rattle.cell_commands.proofs.LoadSaid.{asked, file_failed, load_done, load_failed, space_failed}
use Rattle.cell_commands.proofs.loading.load.Goals as goal

pub returns-in_err-number : goal.returns-in_err-number
returns-in_err-number c =
    let p = err_from_is_err_and c.from_residual.result c.from_residual.ensures.1 in
    rw (p.1, p.2) (space_failed c.args.depot.now c.args.machine.now c.args.ns.now c.args.stem.now c.in_err-number.field-0.0 c.in_err-number.ensures.number)

pub returns-in_err-file : goal.returns-in_err-file
returns-in_err-file c =
    let p = err_from_is_err_and c.from_residual-in_err-file.result c.from_residual-in_err-file.ensures.1 in
    rw (p.1, p.2) (file_failed c.args.depot.now c.args.machine.now c.args.ns.now c.args.stem.now c.in_ok-number.number c.in_ok-number.ensures.number c.in_err-file.field-0.0 c.in_err-file.ensures.file)

pub returns-in_err-change : goal.returns-in_err-change
returns-in_err-change c =
    let p = err_from_is_err_and c.from_residual-in_err-change.result c.from_residual-in_err-change.ensures.1 in
    rw (p.1, p.2) (same_itself c.args.machine.now)

pub make_change-requires-clause-asked : goal.make_change-requires-clause-asked
make_change-requires-clause-asked c =
    asked c.args.depot.now c.args.machine.now c.args.ns.now c.args.stem.now c.in_ok-number.number c.in_ok-number.ensures.number c.requires.apart c.in_ok-number.ensures.there c.in_ok-file.file.now c.in_ok-file.ensures.only c.in_ok-change.change (c.in_ok-change.ensures {u = tt})

pub returns-in_err-fresh : goal.returns-in_err-fresh
returns-in_err-fresh c =
    let p = err_from_is_err_and c.from_residual-in_err-fresh.result c.from_residual-in_err-fresh.ensures.1 in
    let a = asked c.args.depot.now c.args.machine.now c.args.ns.now c.args.stem.now c.in_ok-number.number c.in_ok-number.ensures.number c.requires.apart c.in_ok-number.ensures.there c.in_ok-file.file.now c.in_ok-file.ensures.only c.in_ok-change.change (c.in_ok-change.ensures {u = tt}) in
    rw (p.1, p.2)
    (load_failed c.args.depot.now c.args.machine.now c.args.ns.now c.args.stem.now c.in_ok-number.number c.in_ok-number.ensures.number c.requires.apart c.in_ok-number.ensures.there c.in_ok-file.file.now c.in_ok-file.ensures.only c.in_ok-change.change (c.in_ok-change.ensures {u = tt})
    c.in_err-fresh.field-0.0 c.make_change.new.machine (c.in_err-fresh.ensures a))

pub returns : goal.returns
returns c =
    let a = asked c.args.depot.now c.args.machine.now c.args.ns.now c.args.stem.now c.in_ok-number.number c.in_ok-number.ensures.number c.requires.apart c.in_ok-number.ensures.there c.in_ok-file.file.now c.in_ok-file.ensures.only c.in_ok-change.change (c.in_ok-change.ensures {u = tt}) in
    load_done c.args.depot.now c.args.machine.now c.args.ns.now c.args.stem.now c.in_ok-number.number c.in_ok-number.ensures.number c.requires.apart c.in_ok-number.ensures.there c.in_ok-file.file.now c.in_ok-file.ensures.only c.in_ok-change.change (c.in_ok-change.ensures {u = tt})
    c.in_ok-fresh.field-0 c.make_change.new.machine (c.in_ok-fresh.ensures a)
