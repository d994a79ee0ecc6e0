-- A live task begins again in a sound machine.
use Rattle.std.proofs.Common.{◌≡◌, refl, sym, ◌∙◌, ap, ap₂, subst, ℕ, ◌<◌, Bool, true, false, true≢false, cond, List, [], ◌∷◌, Option, Some, length}
use Rattle.std.specs.Prelude.{◌==◌, find}
use Rattle.std.proofs.lemmas.Bool.{eq-eqb, eqb-true, ltb-true}
use Rattle.cell_num.specs.Lists.{In}
use Rattle.cell_num.proofs.Elements.{all-In, found-In}
use Rattle.cell_world.specs.Coherent.{has_known_origin}
use Rattle.cell_world.specs.Commands.SpawnCommand.{entry_named}
use Rattle.cell_world.specs.Running.Restart.{restarted}
use Rattle.cell_world.specs.Running.Turn.{with_task}
use Rattle.cell_world.specs.World.{Task}
use Rattle.cell_mem.specs.State.{MemoryState}
use Rattle.cell_task.specs.Clearing.{CanClear, with_cleared}
use Rattle.cell_task.specs.State.{TasksState, live_in, with_changed}
use Rattle.cell_machine.specs.declared.machine.Machine.{Machine}
use Rattle.cell_machine.specs.Machine.{world_of}
use Rattle.cell_change.specs.Restarting.{CanRestart, with_restarted}
use Rattle.cell_change.proofs.Arrival.StackOpen.{can_clear}

some_same : {X : Type 0} (a b : X) → Some a ≡ Some b → a ≡ b
some_same a b e = cc

module _ {m : Machine} {task : ℕ} (c : CanRestart m task) where
  there : (t : Task) → live_in m.tasks task ≡ Some t → In t (world_of m).tasks
  there t live = (found-In (λ (u : Task). u.number == task) m.tasks.tasks t live).0

  pub known_origin : (u : Task) → Some u ≡ Some c.t → u.origin.ns < length m.spaces.namespaces
  known_origin u same =
      subst (λ (t : Task). t.origin.ns < length m.spaces.namespaces) (sym (some_same u c.t same))
      (ltb-true c.t.origin.ns (length m.spaces.namespaces) (all-In (has_known_origin (world_of m)) (world_of m).tasks c.sound.coherent.ready.origins c.t (there c.t c.live)))

  -- what is found by the bytes of the name
  pub entry_is : (u : Task) → Some u ≡ Some c.t → (bytes : List ℕ) → bytes ≡ u.origin.name → (o : Option (ℕ × ℕ)) → o ≡ entry_named (world_of m) u.origin.ns bytes → o ≡ Some c.entry
  entry_is u same bytes are o is =
      is
      ∙ (ap (entry_named (world_of m) u.origin.ns) are
      ∙ (ap (λ (t : Task). entry_named (world_of m) t.origin.ns t.origin.name) (some_same u c.t same) ∙ c.there))

  pub may_clear : (t : Task) → live_in m.tasks task ≡ Some t → CanClear m.memory t.stack
  may_clear t live = can_clear m c.sound t (there t live)

  pub as_begun : (entry : ℕ × ℕ) → Some entry ≡ Some c.entry → (tasks : TasksState) (memory : MemoryState) → tasks ≡ with_changed m.tasks (restarted c.t entry) → memory ≡ with_cleared m.memory c.t.stack
      → (record m { tasks = tasks; memory = memory }) ≡ with_restarted m (restarted c.t c.entry)
  as_begun entry same tasks memory changed cleared =
      ap₂ (λ (ts : TasksState) (s : MemoryState). let n : Machine = record m { tasks = ts; memory = s } in n)
      (changed ∙ ap (λ (e : ℕ × ℕ). with_changed m.tasks (restarted c.t e)) (some_same entry c.entry same)) cleared

  changed_live : (tasks : List Task) (t u : Task) → u.number ≡ t.number → find (λ x. x.number == task) tasks ≡ Some t → find (λ x. x.number == task) (with_task u tasks) ≡ Some u
  changed_live [] t u same e = absurd (cc e)
  changed_live (x ∷ tasks) t u same e = go (λ k. changed_live tasks t u same k) (x.number == u.number) refl (x.number == task) refl e
    where
      numbered : find (λ (y : Task). y.number == task) (x ∷ tasks) ≡ Some t → (t.number == task) ≡ true
      numbered k = (found-In (λ (y : Task). y.number == task) (x ∷ tasks) t k).1

      is_task : u.number ≡ task
      is_task = same ∙ eqb-true t.number task (numbered e)

      go : (find (λ (y : Task). y.number == task) tasks ≡ Some t → find (λ (y : Task). y.number == task) (with_task u tasks) ≡ Some u)
          → (a : Bool) → (x.number == u.number) ≡ a → (b : Bool) → (x.number == task) ≡ b → cond b (Some x) (find (λ (y : Task). y.number == task) tasks) ≡ Some t
          → find (λ (y : Task). y.number == task) (cond a u x ∷ with_task u tasks) ≡ Some u
      go behind true f b g k = ap (λ (y : Bool). cond y (Some u) (find (λ (z : Task). z.number == task) (with_task u tasks))) (eq-eqb u.number task is_task)
      go behind false f true g k = absurd (true≢false (sym (eq-eqb x.number u.number (eqb-true x.number task g ∙ sym is_task)) ∙ f))
      go behind false f false g k = ap (λ (y : Bool). cond y (Some x) (find (λ (z : Task). z.number == task) (with_task u tasks))) g ∙ behind k

  -- it is live then, by its number
  pub live_again : (n : Machine) → n ≡ with_restarted m (restarted c.t c.entry) → live_in n.tasks task ≡ Some (restarted c.t c.entry)
  live_again n is = ap (λ (x : Machine). live_in x.tasks task) is ∙ changed_live m.tasks.tasks c.t (restarted c.t c.entry) refl c.live
