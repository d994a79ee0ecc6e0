-- A turn among the fields of the tasks.
use Rattle.std.proofs.Common.{◌≡◌, ◌≢◌, refl, sym, ap, subst, ◌∙◌, ℕ, ◌+◌, ◌*◌, true, List, Option, Some, get_or, is_some}
use Rattle.std.specs.Prelude.{option_map}
use Rattle.slab.specs.Slab.{get, with_value}
use Rattle.cell_world.specs.declared.reply.TaskState.{TaskState}
use Rattle.cell_world.specs.declared.reply.TaskState.TheVariants.{Ready as IsReady, Done as IsDone, Fault as IsFault}
use Rattle.cell_world.specs.World.{Task}
use Rattle.cell_world.specs.Running.Move.{move}
use Rattle.cell_world.specs.Running.Turn.{task_column, with_task}
use Rattle.cell_hart.specs.Step.{seen_of}
use Rattle.cell_mem.specs.Index.{IsLaid}
use Rattle.cell_mem.specs.State.{MemoryState, region_from, unmapped}
use Rattle.cell_task.specs.declared.slice.Ran.{Ran}
use Rattle.cell_task.specs.declared.task.Task.{Task as LiveTask}
use Rattle.cell_task.specs.declared.tasks.Tasks.TheInside.{Inside}
use Rattle.cell_task.specs.declared.turned.Turned.{Turned as Answer}
use Rattle.cell_task.specs.declared.turned.Turned.TheVariants.{Done}
use Rattle.cell_task.specs.Inside.{IsSound, state_of}
use Rattle.cell_task.specs.Numbers.{HasAt}
use Rattle.cell_task.specs.Ran.{IsRan, hart_as}
use Rattle.cell_task.specs.Slices.{Going, IsAmong, IsRun, memory_left, tasks_left}
use Rattle.cell_task.specs.State.{TasksState, live_in, seen_as, with_changed, without}
use Rattle.cell_task.specs.Turns.{IsTurn}
use Rattle.cell_task.proofs.Places.{live_at, sound_changed, stands_at, state_changed}
use Rattle.cell_task.proofs.Turning.{still_mapped, turn_stays, turn_ends, found_changed}

pub some_same : {X : Type 0} (x y : X) (o : Option X) → o ≡ Some x → o ≡ Some y → x ≡ y
some_same x y o p q = cc

-- the task at a place had the value t, and has u after its turn
module _ (i : Inside) (sound : IsSound i) (s : TasksState) (view : state_of i ≡ s) (place number : ℕ) (at : HasAt i.numbers.items place number) (key : ℕ) (e : key ≡ get_or i.keys.items place 0)
    (t u : LiveTask) (got : Some t ≡ get i.arena key) where
  abbrev pub turned : Inside
  turned = record i { arena = with_value i.arena key u }

  pub turned_sound : IsSound turned
  turned_sound = sound_changed i sound place number at turned key e u refl refl refl refl

  pub there : live_in s number ≡ Some (seen_as number t)
  there = sym (ap (λ x. live_in x number) view) ∙ live_at i sound place number at t (sym (got ∙ ap (get i.arena) e))

  -- it stood among the others
  pub among : IsAmong s number t
  among =
      subst (λ x. IsAmong x number t) view
      (record { live = live_at i sound place number at t (sym (got ∙ ap (get i.arena) e)); stands = stands_at i sound place number at t (sym (got ∙ ap (get i.arena) e)) })

  pub turned_view : state_of turned ≡ record s { tasks = with_task (seen_as number u) s.tasks }
  turned_view =
      state_changed i sound place number at turned key e u refl refl refl refl
      ∙ ap (λ (x : TasksState). let y : TasksState = record x { tasks = with_task (seen_as number u) x.tasks } in y) view

  there_then : live_in (state_of turned) number ≡ Some (seen_as number u)
  there_then = ap (λ x. live_in x number) turned_view ∙ found_changed (seen_as number u) (seen_as number t) s.tasks there

  pub live_then : is_some (live_in (state_of turned) number) ≡ true
  live_then = ap is_some there_then

  module _ (m m1 : MemoryState) (laid : IsLaid m.base m.regions (m.base + 4096 * m.pages)) (out out' : List ℕ) (answer : Answer)
      (r : IsRan (move task_column (seen_of m) (hart_as t.hart)) answer t u out out')
      (memory : m1 ≡ record m { regions = (move task_column (seen_of m) (hart_as t.hart)).regions }) where
    pub stays : ((code : ℕ) → answer ≢ Done code) → (w : Task) → live_in s number ≡ Some w → IsTurn s m w out answer (state_of turned) m1 out'
    stays goes w live =
        subst (λ (x : Task). IsTurn s m x out answer (state_of turned) m1 out') (some_same (seen_as number t) w (live_in s number) there live)
        (turn_stays m t laid s number u out out' answer r (state_of turned) m1 goes turned_view memory)

    -- the stack that a kill gives
    module _ (stack : ℕ) (given : option_map (λ x. x.stack) (live_in (state_of turned) number) ≡ Some stack) where
      stack_is : stack ≡ t.stack
      stack_is = sym (some_same u.stack stack _ (ap (option_map (λ (x : Task). x.stack)) there_then) given) ∙ r.stack

      pub mapped_then : ((w : Task) → live_in s number ≡ Some w → is_some (region_from m w.stack) ≡ true) → is_some (region_from m1 stack) ≡ true
      mapped_then had =
          ap (λ k. is_some (region_from m1 k)) stack_is ∙ still_mapped m t laid m1 t.stack memory (had (seen_as number t) there)

      pub ends : (code : ℕ) (s' : TasksState) (m' : MemoryState) → answer ≡ Done code → s' ≡ without (state_of turned) number → m' ≡ unmapped m1 stack
          → (w : Task) → live_in s number ≡ Some w → IsTurn s m w out answer s' m' out'
      ends code s' m' done gone gave w live =
          subst (λ (x : Task). IsTurn s m x out answer s' m' out') (some_same (seen_as number t) w (live_in s number) there live)
          (subst (λ (x : TasksState). IsTurn s m (seen_as number t) out answer x m' out') (sym gone)
          (subst (λ (x : MemoryState). IsTurn s m (seen_as number t) out answer (without (state_of turned) number) x out') (sym (gave ∙ ap (unmapped m1) stack_is))
          (turn_ends m t laid s number u out out' answer r code (state_of turned) m1 done turned_view memory)))

  -- the turns of its slice, after which it stands so
  module _ (m1 : MemoryState) (x : Going) (answer : Ran) (out : List ℕ) (run : IsRun x (tasks_left s number u answer.state) (memory_left m1 u answer.state) answer out) where
    is_left : (state : TaskState) → answer.state ≡ state → IsRun x (tasks_left s number u state) (memory_left m1 u state) answer out
    is_left state is = subst (λ z. IsRun x (tasks_left s number u z) (memory_left m1 u z) answer out) is run

    pub stays_run : ((code : ℕ) → answer.state ≢ IsDone code) → IsRun x (state_of turned) m1 answer out
    stays_run on = subst (λ (y : TasksState). IsRun x y m1 answer out) (sym turned_view) (go answer.state refl)
      where
        go : (state : TaskState) → answer.state ≡ state → IsRun x (with_changed s (seen_as number u)) m1 answer out
        go IsReady is = is_left IsReady is
        go (IsDone code) is = absurd (on code is)
        go (IsFault cause pc) is = is_left (IsFault cause pc) is

    -- the stack that a kill gives
    module _ (stack : ℕ) (given : option_map (λ w. w.stack) (live_in (state_of turned) number) ≡ Some stack) where
      own_stack : stack ≡ u.stack
      own_stack = sym (some_same u.stack stack _ (ap (option_map (λ (w : Task). w.stack)) there_then) given)

      pub mapped_run : is_some (region_from m1 u.stack) ≡ true → is_some (region_from m1 stack) ≡ true
      mapped_run there = ap (λ k. is_some (region_from m1 k)) own_stack ∙ there

      pub ends_run : (code : ℕ) (s' : TasksState) (m' : MemoryState) → answer.state ≡ IsDone code → s' ≡ without (state_of turned) number → m' ≡ unmapped m1 stack → IsRun x s' m' answer out
      ends_run code s' m' done gone gave =
          subst (λ (y : TasksState). IsRun x y m' answer out) (sym (gone ∙ ap (λ (z : TasksState). without z number) turned_view))
          (subst (λ (y : MemoryState). IsRun x (without (with_changed s (seen_as number u)) number) y answer out) (sym (gave ∙ ap (unmapped m1) own_stack)) (is_left (IsDone code) done))
