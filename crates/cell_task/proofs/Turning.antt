-- From what a turn makes of its task to what it makes of all tasks and the memory.
use Rattle.std.proofs.Common.{◌≡◌, ◌≢◌, refl, ap, ◌∙◌, ℕ, ◌+◌, ◌-◌, ◌*◌, Bool, true, false, cond, not, List, [], ◌∷◌, Option, Some, None, length, filter}
use Rattle.std.specs.Prelude.{◌==◌, option_map, is_some}
use Rattle.std.specs.List.{find}
use Rattle.std.proofs.lemmas.Bool.{eq-eqb}
use Rattle.cell_world.specs.declared.reply.TaskState.TheVariants.{Ready as IsReady, Done as IsDone, Fault as IsFault}
use Rattle.cell_world.specs.declared.reply.TaskState.{TaskState}
use Rattle.cell_world.specs.declared.state.Origin.{Origin}
use Rattle.cell_world.specs.World.{World, Region, Task}
use Rattle.cell_world.specs.Placed.Pages.{filled}
use Rattle.cell_world.specs.Running.Execute.{Seen, Effect, Goes, Calls, Traps, execute}
use Rattle.cell_world.specs.Running.Move.{Hart, Row, Ends, Passes, Yields, PutsOut, Answers, Refuses, Move, called, moved_by, move}
use Rattle.cell_world.specs.Running.Turn.{Turned, standing, task_column, task_row, with_task, without_region}
use Rattle.cell_hart.specs.Step.{seen_of}
use Rattle.cell_hart.proofs.Sizes.{SameSizes, size_from, KeepsSizes, sizes_kept}
use Rattle.cell_mem.specs.Index.{IsLaid}
use Rattle.cell_mem.specs.State.{MemoryState, region_from, size_of, unmapped}
use Rattle.cell_mem.specs.Undo.{with_unmapped}
use Rattle.cell_task.specs.declared.task.Task.{Task as LiveTask}
use Rattle.cell_task.specs.declared.task.TaskFault.{TaskFault}
use Rattle.cell_task.specs.declared.turned.Turned.{Turned as Answer}
use Rattle.cell_task.specs.declared.turned.Turned.TheVariants.{Done}
use Rattle.cell_task.specs.Ran.{IsRan, answered, fault_after, hart_as}
use Rattle.cell_task.specs.State.{TasksState, fault_as, seen_as, without}
use Rattle.cell_task.specs.Turns.{with_parts, answer_of, memory_after, IsTurn}

-- the task with the parts that a turn may change
abbrev pub task_after : ℕ → LiveTask → Move → Task
task_after number t after =
    record (seen_as number t) {
      registers = after.hart.registers;
      pc = after.hart.pc;
      fault = option_map fault_as (fault_after t.fault after.state);
    }

-- the task that ran is seen with what the turn changed
seen_after : (number : ℕ) (after : Move) (answer : Answer) (t u : LiveTask) (out out' : List ℕ) → IsRan after answer t u out out'
    → seen_as number u ≡ task_after number t after
seen_after number after answer t u out out' r =
    ap (λ (o : Origin). let w : Task = record { number = number; origin = o; root = u.root.0; stack = u.stack; pc = u.hart.pc; registers = u.hart.x; fault = option_map fault_as u.fault } in w) r.origin
    ∙ ap (λ (root : ℕ). let w : Task = record { number = number; origin = t.origin; root = root; stack = u.stack; pc = u.hart.pc; registers = u.hart.x; fault = option_map fault_as u.fault } in w) (ap (λ x. x.0) r.root)
    ∙ ap (λ (stack : ℕ). let w : Task = record { number = number; origin = t.origin; root = t.root.0; stack = stack; pc = u.hart.pc; registers = u.hart.x; fault = option_map fault_as u.fault } in w) r.stack
    ∙ ap (λ (pc : ℕ). let w : Task = record { number = number; origin = t.origin; root = t.root.0; stack = t.stack; pc = pc; registers = u.hart.x; fault = option_map fault_as u.fault } in w) r.pc
    ∙ ap (λ (xs : List ℕ). let w : Task = record { number = number; origin = t.origin; root = t.root.0; stack = t.stack; pc = after.hart.pc; registers = xs; fault = option_map fault_as u.fault } in w) r.registers
    ∙ ap (λ (fault : Option TaskFault). let w : Task = record { number = number; origin = t.origin; root = t.root.0; stack = t.stack; pc = after.hart.pc; registers = after.hart.registers; fault = option_map fault_as fault } in w) r.fault

-- a change of the task that is then taken away is not seen
gone_changed : (u : Task) (ts : List Task) → filter (λ w. not (w.number == u.number)) (with_task u ts) ≡ filter (λ w. not (w.number == u.number)) ts
gone_changed u [] = refl
gone_changed u (w ∷ ts) = go (w.number == u.number) refl (gone_changed u ts)
  where
    go : (b : Bool) → (w.number == u.number) ≡ b
        → filter (λ x. not (x.number == u.number)) (with_task u ts) ≡ filter (λ x. not (x.number == u.number)) ts
        → filter (λ x. not (x.number == u.number)) (cond b u w ∷ with_task u ts) ≡ cond (not b) (w ∷ filter (λ x. not (x.number == u.number)) ts) (filter (λ x. not (x.number == u.number)) ts)
    go true e rest =
        ap (λ c. cond (not c) (u ∷ filter (λ x. not (x.number == u.number)) (with_task u ts)) (filter (λ x. not (x.number == u.number)) (with_task u ts))) (eq-eqb u.number u.number refl)
        ∙ rest
    go false e rest =
        ap (λ c. cond (not c) (w ∷ filter (λ x. not (x.number == u.number)) (with_task u ts)) (filter (λ x. not (x.number == u.number)) (with_task u ts))) e
        ∙ ap (λ xs. w ∷ xs) rest

-- the changed task is found
pub found_changed : (u t : Task) (ts : List Task) → find (λ w. w.number == u.number) ts ≡ Some t → find (λ w. w.number == u.number) (with_task u ts) ≡ Some u
found_changed u t [] e = absurd cc
found_changed u t (w ∷ ts) e = go (w.number == u.number) refl e (found_changed u t ts)
  where
    go : (b : Bool) → (w.number == u.number) ≡ b → cond b (Some w) (find (λ x. x.number == u.number) ts) ≡ Some t
        → (find (λ x. x.number == u.number) ts ≡ Some t → find (λ x. x.number == u.number) (with_task u ts) ≡ Some u)
        → find (λ x. x.number == u.number) (cond b u w ∷ with_task u ts) ≡ Some u
    go true same e f = ap (λ c. cond c (Some u) (find (λ x. x.number == u.number) (with_task u ts))) (eq-eqb u.number u.number refl)
    go false same e f = ap (λ c. cond c (Some w) (find (λ x. x.number == u.number) (with_task u ts))) same ∙ f e

-- a call leaves the regions
called_regions : (regions : List Region) (h : Hart) (row : Row) → (called regions h row).regions ≡ regions
called_regions regions h Ends = refl
called_regions regions h Passes = refl
called_regions regions h Yields = refl
called_regions regions h (PutsOut bytes) = refl
called_regions regions h (Answers value) = refl
called_regions regions h Refuses = refl

sizes_by : (m : Seen) (h : Hart) (e : Effect) → KeepsSizes m.regions e → SameSizes m.regions (moved_by task_column m h e).regions
sizes_by m h (Goes registers pc store) k = k
sizes_by m h Calls k = λ start. ap (size_from start) (called_regions m.regions h (task_row h.registers))
sizes_by m h (Traps cause) k = λ start. refl

size_again : (m n : MemoryState) (start : ℕ) → size_from start n.regions ≡ size_from start m.regions → size_of (region_from n start) ≡ size_of (region_from m start)
size_again m n start e = go (region_from n start) (region_from m start) e
  where
    go : (o p : Option Region) → option_map (λ r. length r.bytes) o ≡ option_map (λ r. length r.bytes) p → size_of o ≡ size_of p
    go None None e = refl
    go None (Some r) e = absurd cc
    go (Some r) None e = absurd cc
    go (Some r) (Some q) e = cc

module _ (m : MemoryState) (t : LiveTask) (laid : IsLaid m.base m.regions (m.base + 4096 * m.pages)) where
  abbrev pub moved : Move
  moved = move task_column (seen_of m) (hart_as t.hart)

  same_sizes : SameSizes m.regions moved.regions
  same_sizes = sizes_by (seen_of m) (hart_as t.hart) (execute (seen_of m) t.hart.x t.hart.pc) (sizes_kept (seen_of m) m.base (m.base + 4096 * m.pages) laid t.hart.x t.hart.pc)

  -- the stack is still mapped
  pub still_mapped : (m1 : MemoryState) (start : ℕ) → m1 ≡ record m { regions = moved.regions } → is_some (region_from m start) ≡ true → is_some (region_from m1 start) ≡ true
  still_mapped m1 start e there =
      ap (λ (k : MemoryState). is_some (region_from k start)) e ∙ go (find (λ r. r.start == start) moved.regions) (region_from m start) (same_sizes start) there
    where
      go : (o p : Option Region) → option_map (λ r. length r.bytes) o ≡ option_map (λ r. length r.bytes) p → is_some p ≡ true → is_some o ≡ true
      go None None e h = h
      go None (Some r) e h = absurd cc
      go (Some r) p e h = refl

  unmapped_after : (m1 : MemoryState) (start : ℕ) → m1 ≡ record m { regions = moved.regions }
      → (let n : MemoryState = unmapped m start in unmapped m1 start ≡ record n { regions = without_region start moved.regions })
  unmapped_after m1 start e =
      let n : MemoryState = record m { regions = moved.regions } in
      ap (λ (k : MemoryState). unmapped k start) e
      ∙ ap (λ (size : ℕ). let k : MemoryState = record n { regions = without_region start moved.regions; sealed = filled m.sealed (start - m.base) size false; spare = m.spare + 1; undo = with_unmapped start m.undo } in k)
      (size_again m n start (same_sizes start))

  module _ (s : TasksState) (number : ℕ) (u : LiveTask) (out out' : List ℕ) (answer : Answer) (r : IsRan moved answer t u out out') where
    -- the tasks and regions of a machine where the task stands so
    abbrev at : TaskState → World
    at state = standing (with_parts s moved.regions) (record (seen_as number t) { pc = moved.hart.pc; registers = moved.hart.registers }) state

    -- what tasks, memory and output are after a turn
    abbrev IsTurnTo : TasksState → MemoryState → TaskState → Bool → Type 0
    IsTurnTo s' m' state yields =
        let x : Turned = record { world = at state; state = state; yields = yields; out = moved.out } in
        (answer ≡ answer_of x) × (s' ≡ record s { tasks = x.world.tasks }) × (m' ≡ memory_after m (seen_as number t) x)

    by_turn : (s' : TasksState) (m' : MemoryState) → IsTurnTo s' m' moved.state moved.yields → IsTurn s m (seen_as number t) out answer s' m' out'
    by_turn s' m' p = record { answered = p.0; tasks = p.1; memory = p.2; put_out = r.put_out }

    -- a task that goes on, or faults
    pub turn_stays : (s' : TasksState) (m' : MemoryState) → ((code : ℕ) → answer ≢ Done code) → s' ≡ record s { tasks = with_task (seen_as number u) s.tasks } → m' ≡ record m { regions = moved.regions }
        → IsTurn s m (seen_as number t) out answer s' m' out'
    turn_stays s' m' stays a b =
        by_turn s' m' (go moved.state moved.yields r.answer_is (a ∙ ap (λ (w : Task). let k : TasksState = record s { tasks = with_task w s.tasks } in k) (seen_after number moved answer t u out out' r)))
      where
        go : (state : TaskState) (yields : Bool) → answer ≡ answered state yields
            → s' ≡ record s { tasks = with_task (record (seen_as number t) { registers = moved.hart.registers; pc = moved.hart.pc; fault = option_map fault_as (fault_after t.fault state) }) s.tasks }
            → IsTurnTo s' m' state yields
        go IsReady yields e a = (e, a, b)
        go (IsDone code) yields e a = absurd (stays code e)
        go (IsFault cause pc) yields e a = (e, a, b)

    -- a task that ends
    pub turn_ends : (code : ℕ) (s1 : TasksState) (m1 : MemoryState) → answer ≡ Done code → s1 ≡ record s { tasks = with_task (seen_as number u) s.tasks } → m1 ≡ record m { regions = moved.regions }
        → IsTurn s m (seen_as number t) out answer (without s1 number) (unmapped m1 t.stack) out'
    turn_ends code s1 m1 done a b = by_turn (without s1 number) (unmapped m1 t.stack) (go moved.state moved.yields r.answer_is)
      where
        go : (state : TaskState) (yields : Bool) → answer ≡ answered state yields → IsTurnTo (without s1 number) (unmapped m1 t.stack) state yields
        go IsReady true e = absurd (cc (e, done))
        go IsReady false e = absurd (cc (e, done))
        go (IsDone k) yields e = (
          e,
          ap (λ (k : TasksState). without k number) a ∙ ap (λ (ts : List Task). let k : TasksState = record s { tasks = ts } in k) (gone_changed (seen_as number u) s.tasks),
          unmapped_after m1 t.stack b,
        )
        go (IsFault cause pc) yields e = absurd (cc (e, done))
