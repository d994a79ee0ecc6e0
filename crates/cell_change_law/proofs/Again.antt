-- The task of a plan is a live one, which begins again in a present cell, and so the machine stays coherent.
use Rattle.std.proofs.Common.{◌≡◌, sym, ◌∙◌, ap, subst, List, Option, Some, None, Ok, true}
use Rattle.std.specs.Prelude.{find, is_some, ◌==◌}
use Rattle.cell_num.specs.Lists.{In}
use Rattle.cell_num.proofs.Elements.{found-In}
use Rattle.cell_world.specs.World.{World, Cell, Task, cell_of, task_of}
use Rattle.cell_world.specs.Gather.{Source}
use Rattle.cell_world.specs.Running.Restart.{entry_again, restarted, restarted_in, restart, restart_by}
use Rattle.cell_world.specs.Change.{Change, Plan, restarting, plan_of}
use Rattle.cell_world.specs.Coherent.{AreSound, IsCoherent}
use Rattle.cell_lemmas.proofs.Targeting.Present.{and_then_ok}
use Rattle.cell_lemmas.proofs.Tasks.Restarted.{restart_coherent}
use Rattle.cell_lemmas.proofs.Tasks.Spawned.{entry_present}
use Rattle.cell_change_law.specs.Sound.{IsSound}
use Rattle.cell_change_law.specs.Again.{BeginsAgain}
use Rattle.cell_change_law.proofs.Begins.{map_some}
use Rattle.cell_change_law.proofs.Placing.{same_tasks}
use Rattle.cell_change_law.proofs.Steps.{Planned, planned}

pub restarting_live : (v : World) (asked : Change) (t : Task) → restarting v asked ≡ Some t → In t v.tasks
restarting_live v asked t e =
    let a = and_then_ok (task_of v) asked.restarts t e in
    (found-In (λ (x : Task). x.number == a.0) v.tasks t a.2).0

pub begins_again : (sources : List Source) (v : World) (asked : Change) (plan : Plan) → Planned sources v asked plan → (u : Task) → plan.restarted ≡ Some u → BeginsAgain v asked plan u
begins_again sources v asked plan x u e =
    let a = and_then_ok (restarted_in x.world) (restarting v asked) u (ap (λ (y : Plan). y.restarted) x.is ∙ e) in
    let b = map_some (restarted a.0) (entry_again x.world a.0) u a.2 in
    record { task = a.0; entry = b.0; live = a.1; there = subst (λ (y : Plan). entry_again y.linked a.0 ≡ Some b.0) x.is b.1; is = b.2 }

module _ (sources : List Source) (sound : AreSound sources) (v : World) (h : IsCoherent v) (asked : Change) (good : IsSound sources v asked) (plan : Plan) (e : plan_of sources v asked ≡ Ok plan) where
  x : Planned sources v asked plan
  x = planned sources v asked plan e

  pub linked_tasks : plan.linked.tasks ≡ v.tasks
  linked_tasks = subst (λ (y : Plan). y.linked.tasks ≡ v.tasks) x.is (same_tasks sources sound v h asked good x.gathered x.gathering x.world x.placing)

  -- in every machine with these cells and tasks
  pub begun_coherent : (w : World) → IsCoherent w → w.cells ≡ plan.linked.cells → w.tasks ≡ plan.linked.tasks → (o : Option Task) → plan.restarted ≡ o → IsCoherent (restart_by o w)
  begun_coherent w k cells tasks None r = k
  begun_coherent w k cells tasks (Some u) r =
      let b : BeginsAgain v asked plan u = begins_again sources v asked plan x u r in
      let live : In b.task w.tasks = subst (λ (ts : List Task). In b.task ts) (sym (tasks ∙ linked_tasks)) (restarting_live v asked b.task b.live) in
      let there : is_some (cell_of w b.entry.0) ≡ true =
      subst (λ (cs : List Cell). is_some (find (λ (c : Cell). c.id.0 == b.entry.0) cs) ≡ true) (sym cells) (entry_present plan.linked b.task.origin.ns b.task.origin.name b.entry b.there) in
      subst (λ (t : Task). IsCoherent (restart t w)) b.is (restart_coherent w k b.task live b.entry there)
