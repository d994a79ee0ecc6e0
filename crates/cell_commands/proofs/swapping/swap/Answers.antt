use Rattle.std.proofs.lemmas.Result.{err_from_is_err_and}
use Rattle.cell_commands.proofs.SwapSaid.{not_asked, was_refused, was_swapped}
use Rattle.cell_commands.proofs.swapping.swap.Goals as goal

pub returns-in_err-change : goal.returns-in_err-change
returns-in_err-change c =
    let p = err_from_is_err_and c.from_residual.result c.from_residual.ensures.1 in
    rw (p.1, p.2) (not_asked c.args.depot.now c.args.machine.now c.args.items.now c.args.words.now c.requires.sound c.in_err-change.field-0.0 c.in_err-change.ensures)

pub make_change-requires-clause-asked : goal.make_change-requires-clause-asked
make_change-requires-clause-asked c = c.in_ok-change.ensures.asked

pub returns-in_err-fresh : goal.returns-in_err-fresh
returns-in_err-fresh c =
    let p = err_from_is_err_and c.from_residual-in_err-fresh.result c.from_residual-in_err-fresh.ensures.1 in
    let x = c.in_ok-change.ensures in
    rw (p.1, p.2) (was_refused c.args.depot.now c.args.machine.now c.args.items.now c.args.words.now c.requires.some c.in_ok-change.change x c.in_err-fresh.field-0.0 c.make_change.new.machine (c.in_err-fresh.ensures x.asked))

pub returns : goal.returns
returns c =
    let x = c.in_ok-change.ensures in
    was_swapped c.args.depot.now c.args.machine.now c.args.items.now c.args.words.now c.requires.some c.in_ok-change.change x c.in_ok-fresh.field-0 c.make_change.new.machine (c.in_ok-fresh.ensures x.asked)
