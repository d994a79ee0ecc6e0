use Rattle.std.proofs.Common.{◌∙◌, ap, arith}
use Rattle.std.specs.List.{list_any}
use Rattle.std.proofs.lemmas.List.{take_all}
use Rattle.cell_graph.specs.Users.{is_user_of}
use Rattle.cell_num.specs.declared.ids.CellId.{CellId}
use Rattle.cell_plan.proofs.Using.{uses_any}
use Rattle.cell_plan.proofs.users.mark_users.Goals as goal

pub returns : goal.returns
returns c =
    λ n.
    c.loop-index.invariant n
    ∙ (ap (list_any (λ (x : CellId). is_user_of x.0 c.args.graph.now.rows n)) (take_all c.loop-index.index c.args.old.now.cells.now (omega (arith, c.loop-index-test.false)))
    ∙ uses_any c.args.old.now.cells.now c.args.graph.now.rows n)
