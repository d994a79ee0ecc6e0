use Rattle.std.proofs.Common.{ap, cond, ◌∙◌, ◌++◌, ◌∷◌, [], arith}
use Rattle.cell_graph.proofs.section_list.SectionList.push.Goals as goal

pub returns-clause-items : goal.returns-clause-items
returns-clause-items c =
    let list = c.self.inside.list.items in
    c.push.ensures.items ∙ ap (λ b. cond b (list ++ c.args.at ∷ []) list) (c.push.ensures.succeeds (omega (arith, c.requires, ap (λ v. v.spare) c.self.view_is)))
    ∙ ap (λ v. v.items ++ c.args.at ∷ []) c.self.view_is
