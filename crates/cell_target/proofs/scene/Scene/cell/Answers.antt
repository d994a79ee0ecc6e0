use Rattle.std.proofs.Common.{sym, ◌∙◌, ◌++◌}
use Rattle.cell_target.proofs.Lookups.{by_places}
use Rattle.cell_target.proofs.scene.Scene.cell.Goals as goal

pub cell_among-requires : goal.cell_among-requires
cell_among-requires c = c.args.self.now.cells.ordered

pub returns : goal.returns
returns c =
    c.cell_among.ensures
    ∙ sym (by_places c.args.self.now.ahead.now.namespaces (c.args.self.now.present.now ++ c.args.self.now.fresh.now) c.args.self.now.ahead.now.cells c.args.self.now.cells.joined c.args.number)
