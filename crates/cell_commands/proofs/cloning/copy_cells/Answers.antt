use Rattle.std.proofs.lemmas.Result.{err_from_is_err_and}
use Rattle.cell_machine.proofs.Unchanged.{same_itself}
use Rattle.cell_commands.proofs.CopiesSaid.{copies_asked, makes_copies}
use Rattle.cell_commands.proofs.cloning.copy_cells.Goals as goal

pub returns-in_err-copies : goal.returns-in_err-copies
returns-in_err-copies c =
    let p = err_from_is_err_and c.from_residual.result c.from_residual.ensures.1 in
    rw (p.1, p.2) (same_itself c.args.machine.now)

pub make_change-requires-clause-asked : goal.make_change-requires-clause-asked
make_change-requires-clause-asked c =
    copies_asked c.args.depot.now c.args.machine.now c.args.from c.args.to c.requires.new c.in_ok-copies.copies.items (c.in_ok-copies.ensures {u = tt}) c.copying-change.result c.copying-change.ensures

pub returns : goal.returns
returns c =
    let a = copies_asked c.args.depot.now c.args.machine.now c.args.from c.args.to c.requires.new c.in_ok-copies.copies.items (c.in_ok-copies.ensures {u = tt}) c.copying-change.result c.copying-change.ensures in
    makes_copies c.args.depot.now c.args.machine.now c.args.from c.args.to c.requires.new c.in_ok-copies.copies.items (c.in_ok-copies.ensures {u = tt}) c.copying-change.result c.copying-change.ensures
    c.make_change.result c.make_change.new.machine (c.make_change.ensures a)
