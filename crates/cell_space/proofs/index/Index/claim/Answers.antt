use Rattle.std.proofs.Common.{◌∙◌, ap}
use Rattle.cell_space.specs.Index.{claimed}
use Rattle.cell_space.proofs.Holding.{grows_put, taken_ok}
use Rattle.cell_space.proofs.index.Index.claim.Goals as goal

pub returns-clause-grows : goal.returns-clause-grows
returns-clause-grows c =
    grows_put c.args.cells.now c.args.cell c.args.attached c.args.self.now c.put.new.self c.args.ns c.args.hash c.claimed-holder.result
    (c.claimed-holder.ensures ∙ ap (claimed c.args.cells.now c.args.cell c.args.attached) c.get.ensures) c.put.result c.put.ensures.put c.put.ensures.same

pub returns-clause-taken : goal.returns-clause-taken
returns-clause-taken c =
    taken_ok c.args.cells.now c.args.cell c.args.attached c.args.self.now c.put.new.self c.args.ns c.args.hash c.claimed-holder.result
    (c.claimed-holder.ensures ∙ ap (claimed c.args.cells.now c.args.cell c.args.attached) c.get.ensures) c.put.result c.put.ensures.put
