use Rattle.std.proofs.Common.{arith}
use Rattle.cell_unload.proofs.GivenBack.{above, count_fits, given_by, page_fits, tabled_by}
use Rattle.cell_unload.proofs.regions.unmap.Goals as goal

pub overflow_sub-page : goal.overflow_sub-page
overflow_sub-page c =
    omega (arith, c.base.ensures, above c.args.memory.now c.laid_out.ensures c.requires.tabled.aligned c.args.start c.requires.there c.args.space.now c.requires.tabled)

pub overflow_cast-page : goal.overflow_cast-page
overflow_cast-page c =
    omega (arith, page_fits c.args.memory.now c.laid_out.ensures c.requires.tabled.aligned c.args.start c.requires.there c.args.space.now c.requires.tabled c.base.result c.base.ensures)

pub overflow_cast-count : goal.overflow_cast-count
overflow_cast-count c =
    omega (arith, count_fits c.args.memory.now c.laid_out.ensures c.requires.tabled.aligned c.args.start c.requires.there c.args.space.now c.requires.tabled c.size_from.result c.size_from.ensures)

pub give-requires : goal.give-requires
give-requires c =
    given_by c.args.memory.now c.laid_out.ensures c.requires.tabled.aligned c.args.start c.requires.there c.args.space.now c.requires.tabled c.base.result c.size_from.result c.base.ensures c.size_from.ensures

pub returns-clause-tabled : goal.returns-clause-tabled
returns-clause-tabled c =
    tabled_by c.args.memory.now c.laid_out.ensures c.requires.tabled.aligned c.args.start c.requires.there c.args.space.now c.requires.tabled c.unmap.new.self c.give.new.self c.base.result c.size_from.result c.unmap.ensures
    c.give.ensures c.base.ensures c.size_from.ensures
