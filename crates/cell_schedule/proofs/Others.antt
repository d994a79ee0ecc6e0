-- A turn of a task changes no other task, and leaves the task in its place unless it ends.
use Rattle.std.proofs.Common.{◌≡◌, refl, sym, ◌∙◌, ap, subst, ℕ, Bool, true, false, cond, not, List, [], ◌∷◌, Option, Some}
use Rattle.std.specs.Prelude.{◌==◌, filter, find}
use Rattle.std.proofs.lemmas.Bool.{eqb-true, eq-eqb}
use Rattle.cell_world.specs.declared.reply.TaskState.{TaskState}
use Rattle.cell_world.specs.declared.reply.TaskState.TheVariants.{Ready, Done, Fault as Faulted}
use Rattle.cell_world.specs.World.{World, Task, task_of}
use Rattle.cell_world.specs.Running.Execute.{seen_in}
use Rattle.cell_world.specs.Running.Move.{Move, move}
use Rattle.cell_world.specs.Running.Turn.{hart_of, standing, task_column, turn, turned, with_task}

-- the task `task` stands where t stood
pub record IsReplaced (t : Task) (tasks after : List Task) : Type 0 where
  pub task : Task
  pub number : task.number ≡ t.number
  pub stack : task.stack ≡ t.stack
  pub is : after ≡ with_task task tasks

abbrev without_number : ℕ → List Task → List Task
without_number number tasks = filter (λ u. not (u.number == number)) tasks

abbrev pub Becomes : Task → List Task → TaskState → List Task → Type 0
Becomes t tasks Ready after = (r : IsReplaced t tasks after) × (r.task.fault ≡ t.fault)
Becomes t tasks (Done code) after = after ≡ without_number t.number tasks
Becomes t tasks (Faulted cause pc) after = IsReplaced t tasks after

becomes : (w : World) (t : Task) (after : Move) → Becomes t w.tasks (turned w t after).state (turned w t after).world.tasks
becomes w t after = go after.state
  where
    u : Task
    u = record t { pc = after.hart.pc; registers = after.hart.registers }

    go : (state : TaskState) → Becomes t w.tasks state (standing (record w { regions = after.regions }) u state).tasks
    go Ready = (record { task = u; number = refl; stack = refl; is = refl }, refl)
    go (Done code) = refl
    go (Faulted cause pc) = record { task = _; number = refl; stack = refl; is = refl }

abbrev numbered : ℕ → List Task → Option Task
numbered n tasks = find (λ u. u.number == n) tasks

-- equal numbers answer a test alike
alike : (a b n : ℕ) → (a == b) ≡ true → (a == n) ≡ (b == n)
alike a b n e = ap (λ k. k == n) (eqb-true a b e)

found_other : (u : Task) (n : ℕ) → (u.number == n) ≡ false → (tasks : List Task) → numbered n (with_task u tasks) ≡ numbered n tasks
found_other u n other [] = refl
found_other u n other (x ∷ xs) = go (x.number == u.number) refl (found_other u n other xs)
  where
    go : (b : Bool) → (x.number == u.number) ≡ b → numbered n (with_task u xs) ≡ numbered n xs → numbered n (cond b u x ∷ with_task u xs) ≡ numbered n (x ∷ xs)
    go true e rest =
        ap (λ b. cond b (Some u) (numbered n (with_task u xs))) other
        ∙ (rest ∙ sym (ap (λ b. cond b (Some x) (numbered n xs)) (alike x.number u.number n e ∙ other)))
    go false e rest = ap (λ o. cond (x.number == n) (Some x) o) rest

found_left : (k n : ℕ) → (k == n) ≡ false → (tasks : List Task) → numbered n (without_number k tasks) ≡ numbered n tasks
found_left k n other [] = refl
found_left k n other (x ∷ xs) = go (x.number == k) refl (found_left k n other xs)
  where
    go : (b : Bool) → (x.number == k) ≡ b → numbered n (without_number k xs) ≡ numbered n xs → numbered n (cond (not b) (x ∷ without_number k xs) (without_number k xs)) ≡ numbered n (x ∷ xs)
    go true e rest = rest ∙ sym (ap (λ b. cond b (Some x) (numbered n xs)) (alike x.number k n e ∙ other))
    go false e rest = ap (λ o. cond (x.number == n) (Some x) o) rest

found_own : (u t : Task) (tasks : List Task) → numbered u.number tasks ≡ Some t → numbered u.number (with_task u tasks) ≡ Some u
found_own u t [] e = cc
found_own u t (x ∷ xs) e = go (x.number == u.number) refl e (found_own u t xs)
  where
    go : (b : Bool) → (x.number == u.number) ≡ b → cond b (Some x) (numbered u.number xs) ≡ Some t → (numbered u.number xs ≡ Some t → numbered u.number (with_task u xs) ≡ Some u)
        → numbered u.number (cond b u x ∷ with_task u xs) ≡ Some u
    go true e found rest = ap (λ b. cond b (Some u) (numbered u.number (with_task u xs))) (eq-eqb u.number u.number refl)
    go false e found rest = ap (λ b. cond b (Some x) (numbered u.number (with_task u xs))) e ∙ rest found

module _ (w : World) (t : Task) where
  -- any other task is as it was
  pub other_task : (n : ℕ) → (t.number == n) ≡ false → task_of (turn w t).world n ≡ task_of w n
  other_task n other = go (turn w t).state (becomes w t (move task_column (seen_in w) (hart_of t)))
    where
      replaced : IsReplaced t w.tasks (turn w t).world.tasks → task_of (turn w t).world n ≡ task_of w n
      replaced r = ap (numbered n) r.is ∙ found_other r.task n (ap (λ k. k == n) r.number ∙ other) w.tasks

      go : (state : TaskState) → Becomes t w.tasks state (turn w t).world.tasks → task_of (turn w t).world n ≡ task_of w n
      go Ready b = replaced b.0
      go (Done code) b = ap (numbered n) b ∙ found_left t.number n other w.tasks
      go (Faulted cause pc) b = replaced b

  -- a task that goes on is live, ready, and has its stack
  pub record GoesOn : Type 0 where
    pub task : Task
    pub live : task_of (turn w t).world t.number ≡ Some task
    pub fault : task.fault ≡ t.fault
    pub stack : task.stack ≡ t.stack

  pub goes_on : task_of w t.number ≡ Some t → (turn w t).state ≡ Ready → GoesOn
  goes_on live state =
      let b = subst (λ s. Becomes t w.tasks s (turn w t).world.tasks) state (becomes w t (move task_column (seen_in w) (hart_of t))) in
      record {
        task = b.0.task;
        live = ap (numbered t.number) b.0.is ∙ (ap (λ n. numbered n (with_task b.0.task w.tasks)) (sym b.0.number) ∙ found_own b.0.task t w.tasks (ap (λ n. numbered n w.tasks) b.0.number ∙ live));
        fault = b.1;
        stack = b.0.stack;
      }
