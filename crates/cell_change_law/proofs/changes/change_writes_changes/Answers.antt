use Rattle.std.proofs.Common.{◌≡◌, refl, subst}
use Rattle.cell_world.specs.Changed.{changed_fields}
use Rattle.cell_world.specs.Gather.{fresh_cells}
use Rattle.cell_lemmas.specs.Targets.{FollowsTargets}
use Rattle.cell_lemmas.proofs.Links.Growths.{targets_follow}
use Rattle.cell_lemmas.proofs.Fields.Regrown.{relinked_writes}
use Rattle.cell_world.specs.Change.{Plan}
use Rattle.cell_change_law.proofs.Placing.{change_ready, change_regrown}
use Rattle.cell_change_law.proofs.Steps.{Planned, planned, plan_ready, plan_regrown}
use Rattle.cell_change_law.proofs.changes.change_writes_changes.Goals as goal

pub returns-clause-writes : goal.returns-clause-writes
returns-clause-writes k = λ sources v c w sound h good p new_fit changed_fit.
    relinked_writes v w (fresh_cells v.next_cell w) h (change_ready sources sound v h c good p.gathered p.gathering w p.placing p.covered changed_fit new_fit)
    (change_regrown sources sound v h c good p.gathered p.gathering w p.placing p.covered)

pub returns-clause-counts : goal.returns-clause-counts
returns-clause-counts k = λ sources v c plan e. let x : Planned sources v c plan = planned sources v c plan e in subst (λ (y : Plan). y.changed ≡ changed_fields v y.linked) x.is refl

pub returns-clause-others : goal.returns-clause-others
returns-clause-others k = λ sources v c plan sound h good e.
    let x : Planned sources v c plan = planned sources v c plan e in
    subst (λ (y : Plan). FollowsTargets v y.linked) x.is
    (targets_follow v x.world (fresh_cells v.next_cell x.world) h (plan_ready sources sound v h c good plan x) (plan_regrown sources sound v h c good plan x))
