-- After a turn the task's stack is still mapped where the task is live, and no undo is begun where none was.
use Rattle.std.proofs.Common.{◌≡◌, refl, sym, ap, subst, ◌∙◌, ℕ, ◌+◌, ◌*◌, true, false, not, cond, Bool, List, [], ◌∷◌, Some, None, filter, is_some}
use Rattle.std.specs.Prelude.{◌==◌}
use Rattle.std.specs.List.{find}
use Rattle.cell_world.specs.declared.reply.TaskState.{TaskState}
use Rattle.cell_world.specs.declared.reply.TaskState.TheVariants.{Ready as IsReady, Done as IsDone, Fault as IsFault}
use Rattle.cell_world.specs.World.{Region, Task}
use Rattle.cell_world.specs.Running.Turn.{Turned, standing, with_task}
use Rattle.cell_mem.specs.Index.{IsLaid}
use Rattle.cell_mem.specs.State.{MemoryState, region_from, unmapped}
use Rattle.cell_mem.specs.Undo.{with_unmapped}
use Rattle.cell_task.specs.declared.task.Task.{Task as LiveTask}
use Rattle.cell_task.specs.declared.turned.Turned.{Turned as Answer}
use Rattle.cell_task.specs.State.{TasksState, live_in, seen_as}
use Rattle.cell_task.specs.Turns.{turned_in, with_parts, memory_after, IsTurn}
use Rattle.cell_task.proofs.Turning.{moved, still_mapped, found_changed}

gone : (number : ℕ) (ts : List Task) → find (λ t. t.number == number) (filter (λ t. not (t.number == number)) ts) ≡ None
gone number [] = refl
gone number (t ∷ ts) = go (t.number == number) refl (gone number ts)
  where
    go : (b : Bool) → (t.number == number) ≡ b → find (λ u. u.number == number) (filter (λ u. not (u.number == number)) ts) ≡ None
        → find (λ u. u.number == number) (cond (not b) (t ∷ filter (λ u. not (u.number == number)) ts) (filter (λ u. not (u.number == number)) ts)) ≡ None
    go true e rest = rest
    go false e rest = ap (λ c. cond c (Some t) (find (λ u. u.number == number) (filter (λ u. not (u.number == number)) ts))) e ∙ rest

module _ (s : TasksState) (m : MemoryState) (number : ℕ) (t : LiveTask) (laid : IsLaid m.base m.regions (m.base + 4096 * m.pages))
    (live : live_in s number ≡ Some (seen_as number t)) (mapped : is_some (region_from m t.stack) ≡ true) where
  -- what is asked of tasks and memory after a turn
  abbrev Stacked : TasksState → MemoryState → Type 0
  Stacked s' m' = (w : Task) → live_in s' number ≡ Some w → is_some (region_from m' w.stack) ≡ true

  abbrev Leaves : Turned → Type 0
  Leaves x = let s' : TasksState = record s { tasks = x.world.tasks } in Stacked s' (memory_after m (seen_as number t) x)

  stays_stacked : (u w : Task) → u.number ≡ number → u.stack ≡ t.stack → find (λ v. v.number == number) (with_task u s.tasks) ≡ Some w
      → (let m' : MemoryState = record m { regions = (moved m t laid).regions } in is_some (region_from m' w.stack) ≡ true)
  stays_stacked u w n k found =
      let m' : MemoryState = record m { regions = (moved m t laid).regions } in
      let here : find (λ v. v.number == u.number) s.tasks ≡ Some (seen_as number t) = ap (λ i. find (λ v. v.number == i) s.tasks) n ∙ live in
      let found_then : find (λ v. v.number == number) (with_task u s.tasks) ≡ Some u =
      ap (λ i. find (λ v. v.number == i) (with_task u s.tasks)) (sym n) ∙ found_changed u (seen_as number t) s.tasks here in
      let same : w ≡ u = cc in
      ap (λ (v : Task). is_some (region_from m' v.stack)) same ∙ ap (λ i. is_some (region_from m' i)) k ∙ still_mapped m t laid m' t.stack refl mapped

  leaves : (state : TaskState) → (let u : Task = record (seen_as number t) { pc = (moved m t laid).hart.pc; registers = (moved m t laid).hart.registers } in
      let x : Turned = record { world = standing (with_parts s (moved m t laid).regions) u state; state = state; yields = (moved m t laid).yields; out = (moved m t laid).out } in Leaves x)
  leaves IsReady = λ w found. stays_stacked (record (seen_as number t) { pc = (moved m t laid).hart.pc; registers = (moved m t laid).hart.registers }) w refl refl found
  leaves (IsDone code) = λ w found. absurd (cc (gone number s.tasks, found))
  leaves (IsFault cause pc) = λ w found. stays_stacked (record (seen_as number t) { pc = (moved m t laid).hart.pc; registers = (moved m t laid).hart.registers; fault = Some (record { cause = cause; pc = pc }) }) w refl refl found

  pub stack_stays : (out : List ℕ) (answer : Answer) (s' : TasksState) (m' : MemoryState) (out' : List ℕ) → IsTurn s m (seen_as number t) out answer s' m' out' → Stacked s' m'
  stack_stays out answer s' m' out' turn =
      subst (λ (x : TasksState). Stacked x m') (sym turn.tasks)
      (subst (λ (x : MemoryState). let y : TasksState = record s { tasks = (turned_in s m (seen_as number t)).world.tasks } in Stacked y x) (sym turn.memory) (leaves (moved m t laid).state))

pub undo_stays : (s : TasksState) (m : MemoryState) (t : Task) (out : List ℕ) (answer : Answer) (s' : TasksState) (m' : MemoryState) (out' : List ℕ)
    → IsTurn s m t out answer s' m' out' → m.undo ≡ None → m'.undo ≡ None
undo_stays s m t out answer s' m' out' turn none = ap (λ (k : MemoryState). k.undo) turn.memory ∙ go (turned_in s m t).state (turned_in s m t).world.regions
  where
    go : (state : TaskState) (regions : List Region)
        → (elim state as (λ _. MemoryState) [
          | IsReady ↦ record m { regions = regions }
          | IsDone code ↦ record (unmapped m t.stack) { regions = regions }
          | IsFault cause pc ↦ record m { regions = regions }
        ]).undo ≡ None
    go IsReady regions = none
    go (IsDone code) regions = ap (with_unmapped t.stack) none
    go (IsFault cause pc) regions = none
