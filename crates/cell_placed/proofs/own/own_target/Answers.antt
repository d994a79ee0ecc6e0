use Rattle.std.proofs.Common.{ap, arith}
use Rattle.cell_object.specs.Parts.{is_defined}
use Rattle.cell_placed.proofs.own.own_target.Goals as goal

pub overflow_add-result : goal.overflow_add-result
overflow_add-result c =
    let start = c.requires.low.starts c.in-Inside.section in
    let value = c.requires.low.values c.args.symbol.now c.requires.there (ap is_defined c.in-Inside.is) in
    omega (arith, c.start_of-start.ensures, start, value)
