use Rattle.std.proofs.Common.{◌∙◌, ap, ap₂, map, Bool, ◌||◌}
use Rattle.cell_num.specs.Lists.{holds}
use Rattle.cell_plan.proofs.Using.{filter_alike}
use Rattle.cell_plan.proofs.users.may_change.Goals as goal

pub returns : goal.returns
returns c =
    c.in_ok-users.ensures
    ∙ filter_alike _ _ (λ x. ap₂ (λ (a b : Bool). a || (b || holds (map (λ n. n.0) c.args.soft.now.cells.now) x.id.0)) (c.in_ok-mark_users.ensures x.id.0) (c.in_ok-mark_users-2.ensures x.id.0)) c.args.present.now
