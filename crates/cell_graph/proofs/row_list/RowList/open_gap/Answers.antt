use Rattle.std.proofs.Common.{◌+◌, ◌-◌, ◌++◌, ◌∙◌, ap, arith, cond, refl, replicate, take}
use Rattle.cell_graph.proofs.Gapped.{opened}
use Rattle.cell_graph.proofs.row_list.RowList.open_gap.Goals as goal

pub returns-clause-items : goal.returns-clause-items
returns-clause-items g c =
    let list = c.self.inside.list in
    let back = c.len-front.result + c.args.size in
    let fits = c.resize.ensures.succeeds (omega (arith, c.requires, c.len-front.ensures, list.ok.1, ap (λ v. v.spare) c.self.view_is)) in
    (opened list.items c.resize.new.self.items c.len-front.result list.len back c.args.size c.nowhere.result (c.len-front.ensures ∙ list.ok.0) list.ok.0 refl
    (c.resize.ensures.items ∙ ap (λ b. cond b (take back list.items ++ replicate (back - list.len) c.nowhere.result) list.items) fits)).0
    ∙ ap (λ v. v.items) c.self.view_is

pub returns-clause-end : goal.returns-clause-end
returns-clause-end g c =
    let list = c.self.inside.list in
    let back = c.len-front.result + c.args.size in
    let fits = c.resize.ensures.succeeds (omega (arith, c.requires, c.len-front.ensures, list.ok.1, ap (λ v. v.spare) c.self.view_is)) in
    let long = (opened list.items c.resize.new.self.items c.len-front.result list.len back c.args.size c.nowhere.result (c.len-front.ensures ∙ list.ok.0) list.ok.0 refl
    (c.resize.ensures.items ∙ ap (λ b. cond b (take back list.items ++ replicate (back - list.len) c.nowhere.result) list.items) fits)).1 in
    omega (arith, long)

pub returns-clause-gap : goal.returns-clause-gap
returns-clause-gap g c =
    let long = returns-clause-end g c in
    record { ordered = omega arith; within = omega (arith, long) }
