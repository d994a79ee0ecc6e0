use Rattle.std.proofs.Common.{ap, cond, ◌∙◌, arith}
use Rattle.std.specs.List.{insert}
use Rattle.cell_graph.proofs.row_list.RowList.insert.Goals as goal

pub returns-clause-items : goal.returns-clause-items
returns-clause-items g c =
    let list = c.self.inside.list.items in
    c.insert.ensures.items ∙ ap (λ b. cond b (insert list c.args.index c.args.at) list) (c.insert.ensures.succeeds (omega (arith, c.requires.room, ap (λ v. v.spare) c.self.view_is)))
    ∙ ap (λ v. insert v.items c.args.index c.args.at) c.self.view_is
