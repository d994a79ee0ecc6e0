use Rattle.std.proofs.Common.{◌∙◌, refl, sym}
use Rattle.cell_plan.proofs.Stepping.{move_added, same_added}
use Rattle.cell_plan.proofs.steps.add_move.Goals as goal

pub returns-then-is_same-clause-links : goal.returns-then-is_same-clause-links
returns-then-is_same-clause-links c = same_added c.args.link c.args.moved c.args.into.now (sym c.is_same.ensures ∙ c.if-is_same.true)

pub returns-clause-links : goal.returns-clause-links
returns-clause-links c =
    move_added c.args.link c.args.moved c.args.into.now (record c.args.into.now { moves = c.push.new.self; backs = c.push-2.new.self }) (sym c.is_same.ensures ∙ c.if-is_same.false)
    (c.in_ok-push.ensures {u = tt}).items (c.in_ok-push-2.ensures {u = tt}).items refl refl
