use Rattle.std.proofs.Common.{arith}
use Rattle.cell_routines.proofs.Standing.{found_low}
use Rattle.cell_routines.proofs.routines.entry_at.Goals as goal

pub start_of-requires : goal.start_of-requires
start_of-requires c = (found_low c.args.cells.now c.args.begin.now.cell.0 c.in-Some.cell.now c.requires.low c.in-Some.ensures).ordered

pub overflow_add-result : goal.overflow_add-result
overflow_add-result c =
    let low = (found_low c.args.cells.now c.args.begin.now.cell.0 c.in-Some.cell.now c.requires.low c.in-Some.ensures).starts c.args.begin.now.section in
    omega (arith, c.start_of.ensures, low, c.requires.offset)
