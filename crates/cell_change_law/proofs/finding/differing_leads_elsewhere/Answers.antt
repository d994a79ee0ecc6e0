use Rattle.std.proofs.Common.{◌≡◌, refl, ◌∙◌, ap, subst, suc}
use Rattle.std.specs.Prelude.{All}
use Rattle.cell_world.specs.Change.{Plan, old_of}
use Rattle.cell_world.specs.Changed.{differs, now_in}
use Rattle.cell_world.specs.Gather.{fresh_cells}
use Rattle.cell_world.specs.World.{Cell}
use Rattle.cell_num.proofs.Elements.{In-All}
use Rattle.cell_lemmas.specs.Leads.{leads_elsewhere}
use Rattle.cell_lemmas.proofs.Targeting.Detached.{put_same}
use Rattle.cell_lemmas.proofs.Targeting.SameSection.{differ_elsewhere}
use Rattle.cell_change_law.proofs.Placing.{now_is}
use Rattle.cell_change_law.proofs.Steps.{Planned, planned, plan_ready, plan_regrown}
use Rattle.cell_change_law.proofs.finding.differing_leads_elsewhere.Goals as goal

pub returns : goal.returns
returns k = λ sources v c plan sound h good e.
    let x : Planned sources v c plan = planned sources v c plan e in
    subst (λ (y : Plan). All (λ d. All (λ e. differs v y.linked d e ≡ leads_elsewhere v y.linked d e) d.object.entries) v.cells) x.is
    (differ_elsewhere v x.world (fresh_cells v.next_cell x.world) h (plan_ready sources sound v h c good plan x) (plan_regrown sources sound v h c good plan x)
    (In-All (λ (d : Cell). (now_in x.world d).aliases ≡ d.aliases) v.cells
    (λ d i. ap (λ (z : Cell). z.aliases) (now_is sources sound v h c good x.gathered x.gathering x.world x.placing x.covered d i) ∙ put_same (suc v.swaps) (old_of c) (λ z. z.aliases) d refl)))
