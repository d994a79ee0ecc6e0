-- The task that begins again by a plan.
use Rattle.std.proofs.Common.{◌≡◌, refl, sym, ◌∙◌, ap, subst, ℕ, List, Option, None, Some, Ok}
use Rattle.std.specs.Prelude.{◌==◌, option_and_then, option_map}
use Rattle.std.proofs.lemmas.Bool.{eqb-true}
use Rattle.cell_num.proofs.Elements.{found-In}
use Rattle.cell_world.specs.declared.file.File.{File}
use Rattle.cell_world.specs.Change.{Plan as PlanSaid, plan_of, restarted_task, restarting}
use Rattle.cell_world.specs.Running.Restart.{restarted_in}
use Rattle.cell_world.specs.World.{Task}
use Rattle.cell_lemmas.proofs.Targeting.Present.{and_then_ok}
use Rattle.cell_change_law.specs.Again.{BeginsAgain}
use Rattle.cell_change_law.proofs.Again.{begins_again}
use Rattle.cell_change_law.proofs.EntryStays.{surely_begins}
use Rattle.cell_change_law.proofs.Steps.{Planned, planned as in_steps}
use Rattle.cell_task.specs.State.{TasksState, live_in}
use Rattle.cell_machine.specs.declared.machine.Machine.{Machine}
use Rattle.cell_change.specs.declared.request.Change.{Change}
use Rattle.cell_change.specs.Asking.{restart_by}
use Rattle.cell_change.specs.Planning.{BeginsBy, IsBegun, IsBegunBy, wish}
use Rattle.cell_change.specs.Restarting.{live_named}
use Rattle.cell_change.proofs.Decision.Began.{are, good, h, sources, v}

module _ (files : List File) (asked : Change) (m : Machine) (b : IsBegun files asked m) (said : PlanSaid) (is : plan_of (sources files asked m b) (v files asked m b) (wish b) ≡ Ok said) where
  named_live : live_named m.tasks (restart_by asked.options.ending) ≡ restarting (v files asked m b) (wish b)
  named_live = ap (λ (ts : TasksState). live_named ts (restart_by asked.options.ending)) b.aside.tasks

  steps : Planned (sources files asked m b) (v files asked m b) (wish b) said
  steps = in_steps (sources files asked m b) (v files asked m b) (wish b) said is

  none_begins : restarting (v files asked m b) (wish b) ≡ None → said.restarted ≡ None
  none_begins none = subst (λ (p : PlanSaid). p.restarted ≡ None) steps.is (restarts_none none)
    where
      restarts_none : restarting (v files asked m b) (wish b) ≡ None → restarted_task (v files asked m b) (wish b) steps.world ≡ None
      restarts_none e = ap (option_and_then (restarted_in steps.world)) e

  some_begins : (number : ℕ) (t : Task) → restart_by asked.options.ending ≡ Some number → live_in m.tasks number ≡ Some t → restarting (v files asked m b) (wish b) ≡ Some t → IsBegunBy m asked said number
  some_begins number t named live r =
      let s = surely_begins (sources files asked m b) (are files asked m b) (v files asked m b) (h files asked m b) (wish b) (good files asked m b) said is t r in
      let k : BeginsAgain (v files asked m b) (wish b) said s.0 = begins_again (sources files asked m b) (v files asked m b) (wish b) said steps s.0 s.1 in
      record {
        named = named;
        t = k.task;
        live = live ∙ (sym r ∙ k.live);
        entry = k.entry;
        there = k.there;
        is = s.1 ∙ ap (λ (u : Task). let o : Option Task = Some u in o) (sym k.is);
      }

  pub begins_by : (again : Option ℕ) → again ≡ option_map (λ t. t.number) (live_named m.tasks (restart_by asked.options.ending)) → BeginsBy m asked said again
  begins_by again e = go (live_named m.tasks (restart_by asked.options.ending)) refl e
    where
      go : (o : Option Task) → live_named m.tasks (restart_by asked.options.ending) ≡ o → again ≡ option_map (λ t. t.number) o → BeginsBy m asked said again
      go None is_none e = subst (BeginsBy m asked said) (sym e) (none_begins (sym named_live ∙ is_none))
      go (Some t) is_some e =
          let a = and_then_ok (live_in m.tasks) (restart_by asked.options.ending) t is_some in
          let number : t.number ≡ a.0 = eqb-true t.number a.0 (found-In (λ (u : Task). u.number == a.0) m.tasks.tasks t a.2).1 in
          subst (BeginsBy m asked said) (sym (e ∙ ap (λ (n : ℕ). let o : Option ℕ = Some n in o) number)) (some_begins a.0 t a.1 a.2 (sym named_live ∙ is_some))
