-- Turns of one task, one after another, are its slice.
use Rattle.std.proofs.Common.{◌≡◌, ◌≢◌, refl, sym, ap, subst, ◌∙◌, ℕ, suc, ◌+◌, ◌*◌, ◌-◌, ◌<◌, arith, Bool, true, false, cond, List, [], ◌∷◌, ◌++◌, Option, Some, None, is_some}
use Rattle.std.specs.Prelude.{◌==◌, if◌then◌else◌}
use Rattle.std.proofs.lemmas.Bool.{eq-eqb, eqb-true}
use Rattle.cell_world.specs.declared.reply.TaskState.{TaskState}
use Rattle.cell_world.specs.declared.reply.TaskState.TheVariants.{Ready as IsReady, Done as IsDone, Fault as IsFault}
use Rattle.cell_world.specs.World.{Task}
use Rattle.cell_world.specs.Running.Turn.{with_task}
use Rattle.cell_mem.specs.Index.{IsLaid}
use Rattle.cell_mem.specs.State.{MemoryState, region_from, unmapped}
use Rattle.cell_task.specs.declared.task.Task.{Task as LiveTask}
use Rattle.cell_task.specs.declared.turned.Turned.{Turned as Answer}
use Rattle.cell_task.specs.declared.turned.Turned.TheVariants.{Ready, Yield, Done, Fault}
use Rattle.cell_task.specs.Ran.{IsRan, answered}
use Rattle.cell_task.specs.Slices.{Going, IsAmong, IsRun, begun, memory_left, one_more, run_from, stopped_by, tasks_left}
use Rattle.cell_task.specs.State.{TasksState, live_in, seen_as, with_changed, without}
use Rattle.cell_task.specs.Turns.{IsTurn, answer_of, memory_after, turned_in}
use Rattle.cell_task.proofs.Turning.{found_changed, moved, still_mapped, turn_ends, turn_stays}

-- of two changes of one task the last is seen
changed_twice : (u v : Task) (ts : List Task) → v.number ≡ u.number → with_task u (with_task v ts) ≡ with_task u ts
changed_twice u v [] same = refl
changed_twice u v (w ∷ ts) same = go (w.number == v.number) refl (changed_twice u v ts same)
  where
    go : (b : Bool) → (w.number == v.number) ≡ b → with_task u (with_task v ts) ≡ with_task u ts
        → with_task u (cond b v w ∷ with_task v ts) ≡ cond (w.number == u.number) u w ∷ with_task u ts
    go true e rest =
        ap (λ b. cond b u v ∷ with_task u (with_task v ts)) (eq-eqb v.number u.number same)
        ∙ (ap (λ xs. u ∷ xs) rest
        ∙ sym (ap (λ b. cond b u w ∷ with_task u ts) (eq-eqb w.number u.number (eqb-true w.number v.number e ∙ same))))
    go false e rest = ap (λ xs. cond (w.number == u.number) u w ∷ xs) rest

-- the task that was changed is among the tasks
pub among_changed : (s : TasksState) (number : ℕ) (t u : LiveTask) → IsAmong s number t → IsAmong (with_changed s (seen_as number u)) number u
among_changed s number t u a = record {
  live = found_changed (seen_as number u) (seen_as number t) s.tasks a.live;
  stands = ap (λ (ts : List Task). let x : TasksState = record s { tasks = ts } in x) (changed_twice (seen_as number u) (seen_as number u) s.tasks refl);
}

pub changed_again : (s : TasksState) (number : ℕ) (t u : LiveTask) → with_changed (with_changed s (seen_as number t)) (seen_as number u) ≡ with_changed s (seen_as number u)
changed_again s number t u = ap (λ (ts : List Task). let x : TasksState = record s { tasks = ts } in x) (changed_twice (seen_as number u) (seen_as number t) s.tasks refl)

-- where the turn doesn't stop the slice, the task goes on
goes_state : (stops : Bool) (state : TaskState) (yields : Bool) → stopped_by stops (answered state yields) ≡ None → state ≡ IsReady
goes_state stops IsReady yields e = refl
goes_state stops (IsDone code) yields e = cc
goes_state stops (IsFault cause pc) yields e = cc

not_done : (stops : Bool) (answer : Answer) → stopped_by stops answer ≡ None → (code : ℕ) → answer ≢ Done code
not_done stops answer e code is = absurd (cc (e, ap (stopped_by stops) is))

-- the rest of a slice after a turn that led to s' and m'
abbrev pub rest : ℕ → Bool → ℕ → TasksState → MemoryState → ℕ → List ℕ → Option TaskState → Going
rest n stops number s m turns out None = run_from n stops number (record { tasks = s; memory = m; turns = turns; state = IsReady; out = out })
rest n stops number s m turns out (Some state) = record { tasks = s; memory = m; turns = turns; state = state; out = out }

module _ (stops : Bool) (n : ℕ) (s : TasksState) (number : ℕ) (m : MemoryState) (had : ℕ) (out : List ℕ) where
  abbrev at : Going
  at = record { tasks = s; memory = m; turns = had; state = IsReady; out = out }

  -- a slice is a turn, and the rest of the slice
  pub one_turn : (t : Task) (answer : Answer) (s' : TasksState) (m' : MemoryState) (out' : List ℕ) → live_in s number ≡ Some t → IsTurn s m t out answer s' m' out'
      → run_from (suc n) stops number at ≡ rest n stops number s' m' (suc had) out' (stopped_by stops answer)
  one_turn t answer s' m' out' live turn =
      ap (λ o. elim o as (λ _. Going) [
        | None ↦ at
        | Some u ↦ elim (stopped_by stops (answer_of (turned_in s m u))) as (λ _. Going) [
          | None ↦ run_from n stops number (one_more at u (turned_in s m u) IsReady)
          | Some state ↦ one_more at u (turned_in s m u) state
        ]
      ]) live
      ∙ (by_answer (stopped_by stops (answer_of (turned_in s m t)))
      ∙ (ap (λ (x : TasksState). rest n stops number x (memory_after m t (turned_in s m t)) (suc had) (out ++ (turned_in s m t).out) (stopped_by stops (answer_of (turned_in s m t)))) (sym turn.tasks)
      ∙ (ap (λ (x : MemoryState). rest n stops number s' x (suc had) (out ++ (turned_in s m t).out) (stopped_by stops (answer_of (turned_in s m t)))) (sym turn.memory)
      ∙ (ap (λ o. rest n stops number s' m' (suc had) o (stopped_by stops (answer_of (turned_in s m t)))) (sym turn.put_out)
      ∙ ap (λ a. rest n stops number s' m' (suc had) out' (stopped_by stops a)) (sym turn.answered)))))
    where
      by_answer : (o : Option TaskState)
          → (elim o as (λ _. Going) [
            | None ↦ run_from n stops number (one_more at t (turned_in s m t) IsReady)
            | Some state ↦ one_more at t (turned_in s m t) state
          ]) ≡ rest n stops number (record s { tasks = (turned_in s m t).world.tasks }) (memory_after m t (turned_in s m t)) (suc had) (out ++ (turned_in s m t).out) o
      by_answer None = refl
      by_answer (Some state) = refl

-- one turn of a task that stands among others
module _ (m : MemoryState) (t : LiveTask) (laid : IsLaid m.base m.regions (m.base + 4096 * m.pages)) (m1 : MemoryState) (u : LiveTask) (answer : Answer) (out out' : List ℕ)
    (ran : IsRan (moved m t laid) answer t u out out') (memory : m1 ≡ record m { regions = (moved m t laid).regions }) where
  pub mapped_on : is_some (region_from m t.stack) ≡ true → is_some (region_from m1 u.stack) ≡ true
  mapped_on there = ap (λ k. is_some (region_from m1 k)) ran.stack ∙ still_mapped m t laid m1 t.stack memory there

  module _ (stops : Bool) (n had : ℕ) (s : TasksState) (number : ℕ) (among : IsAmong s number t) where
    abbrev all : Going
    all = run_from (suc n) stops number (record { tasks = s; memory = m; turns = had; state = IsReady; out = out })

    stays : ((code : ℕ) → answer ≢ Done code) → all ≡ rest n stops number (with_changed s (seen_as number u)) m1 (suc had) out' (stopped_by stops answer)
    stays on =
        one_turn stops n s number m had out (seen_as number t) answer (with_changed s (seen_as number u)) m1 out' among.live
        (turn_stays m t laid s number u out out' answer ran (with_changed s (seen_as number u)) m1 on refl memory)

    ends : (code : ℕ) → answer ≡ Done code → all ≡ rest n stops number (without (with_changed s (seen_as number u)) number) (unmapped m1 u.stack) (suc had) out' (stopped_by stops answer)
    ends code done =
        one_turn stops n s number m had out (seen_as number t) answer (without (with_changed s (seen_as number u)) number) (unmapped m1 t.stack) out' among.live
        (turn_ends m t laid s number u out out' answer ran code (with_changed s (seen_as number u)) m1 done refl memory)
        ∙ ap (λ k. rest n stops number (without (with_changed s (seen_as number u)) number) (unmapped m1 k) (suc had) out' (stopped_by stops answer)) (sym ran.stack)

    pub goes_on : stopped_by stops answer ≡ None → all ≡ run_from n stops number (record { tasks = with_changed s (seen_as number u); memory = m1; turns = suc had; state = IsReady; out = out' })
    goes_on e = stays (not_done stops answer e) ∙ ap (rest n stops number (with_changed s (seen_as number u)) m1 (suc had) out') e

    -- what is left where the task is stopped
    abbrev Left : TaskState → Type 0
    Left state = all ≡ (let x : Going = record { tasks = tasks_left s number u state; memory = memory_left m1 u state; turns = suc had; state = state; out = out' } in x)

    pub stopped : (state : TaskState) → stopped_by stops answer ≡ Some state → Left state
    stopped state e = go answer refl e
      where
        same : (x y : TaskState) → Some x ≡ Some y → x ≡ y
        same x y e = cc

        on : ((code : ℕ) → answer ≢ Done code) → (x : TaskState) → tasks_left s number u x ≡ with_changed s (seen_as number u) → memory_left m1 u x ≡ m1 → stopped_by stops answer ≡ Some x → Left x
        on goes x a b k =
            stays goes
            ∙ (ap (rest n stops number (with_changed s (seen_as number u)) m1 (suc had) out') k
            ∙ (ap (λ (y : TasksState). rest n stops number y m1 (suc had) out' (Some x)) (sym a) ∙ ap (λ (y : MemoryState). rest n stops number (tasks_left s number u x) y (suc had) out' (Some x)) (sym b)))

        yielded : (b : Bool) → stops ≡ b → answer ≡ Yield → (if b then Some IsReady else None) ≡ Some state → Left state
        yielded true e1 is e =
            subst Left (same IsReady state e)
            (on (λ code done. absurd (cc (is, done))) IsReady refl refl (ap (stopped_by stops) is ∙ ap (λ c. if c then Some IsReady else None) e1))
        yielded false e1 is e = absurd cc

        go : (a : Answer) → answer ≡ a → stopped_by stops a ≡ Some state → Left state
        go Ready is e = absurd cc
        go Yield is e = yielded stops refl is e
        go (Done code) is e =
            subst Left (same (IsDone code) state e) (ends code is ∙ ap (rest n stops number (without (with_changed s (seen_as number u)) number) (unmapped m1 u.stack) (suc had) out') (ap (stopped_by stops) is))
        go (Fault cause pc) is e =
            subst Left (same (IsFault cause pc) state e) (on (λ code done. absurd (cc (is, done))) (IsFault cause pc) refl refl (ap (stopped_by stops) is))

left_again : (s : TasksState) (number : ℕ) (t u : LiveTask) (state : TaskState) → tasks_left (with_changed s (seen_as number t)) number u state ≡ tasks_left s number u state
left_again s number t u IsReady = changed_again s number t u
left_again s number t u (IsDone code) = ap (λ (x : TasksState). without x number) (changed_again s number t u)
left_again s number t u (IsFault cause pc) = changed_again s number t u

is_run : (x : Going) (s : TasksState) (m : MemoryState) (turns : ℕ) (state : TaskState) (out : List ℕ) → x ≡ record { tasks = s; memory = m; turns = turns; state = state; out = out }
    → IsRun x s m (record { turns = turns; state = state }) out
is_run x s m turns state out e = record {
  tasks = ap (λ (y : Going). y.tasks) (sym e);
  memory = ap (λ (y : Going). y.memory) (sym e);
  turns = ap (λ (y : Going). y.turns) (sym e);
  state = ap (λ (y : Going). y.state) (sym e);
  put_out = ap (λ (y : Going). y.out) (sym e);
}

module _ (turns : ℕ) (stops : Bool) (m0 : MemoryState) (t0 : LiveTask) (out0 : List ℕ) where
  abbrev whole : TasksState → ℕ → Going
  whole s number = run_from turns stops number (begun s m0 out0)

  -- the slice so far: what is left of it is all of it
  pub record IsUnderWay (had : ℕ) (m : MemoryState) (t : LiveTask) (out : List ℕ) : Type 0 where
    pub among : (s : TasksState) (number : ℕ) → IsAmong s number t0 → IsAmong (with_changed s (seen_as number t)) number t
    pub left : (s : TasksState) (number : ℕ) → IsAmong s number t0
        → whole s number ≡ run_from (turns - had) stops number (record { tasks = with_changed s (seen_as number t); memory = m; turns = had; state = IsReady; out = out })
    pub mapped : is_some (region_from m0 t0.stack) ≡ true → is_some (region_from m t.stack) ≡ true
    pub undo : m.undo ≡ None

  pub begins : m0.undo ≡ None → IsUnderWay 0 m0 t0 out0
  begins none =
      let all : turns ≡ turns - 0 = omega arith in
      record {
        among = λ s number a. among_changed s number t0 t0 a;
        left = λ s number a. ap (λ n. run_from n stops number (begun s m0 out0)) all ∙ ap (λ (x : TasksState). run_from (turns - 0) stops number (begun x m0 out0)) (sym a.stands);
        mapped = λ there. there;
        undo = none;
      }

  module _ (had : ℕ) (m : MemoryState) (t : LiveTask) (out : List ℕ) (so : IsUnderWay had m t out) (more : had < turns) (laid : IsLaid m.base m.regions (m.base + 4096 * m.pages)) (m1 : MemoryState) (u : LiveTask) (answer : Answer) (out' : List ℕ)
      (ran : IsRan (moved m t laid) answer t u out out') (memory : m1 ≡ record m { regions = (moved m t laid).regions }) where
    count : turns - had ≡ suc (turns - suc had)
    count = omega (arith, more)

    first : (s : TasksState) (number : ℕ) → IsAmong s number t0
        → whole s number ≡ run_from (suc (turns - suc had)) stops number (record { tasks = with_changed s (seen_as number t); memory = m; turns = had; state = IsReady; out = out })
    first s number a =
        so.left s number a ∙ ap (λ n. run_from n stops number (record { tasks = with_changed s (seen_as number t); memory = m; turns = had; state = IsReady; out = out })) count

    pub mapped_then : is_some (region_from m0 t0.stack) ≡ true → is_some (region_from m1 u.stack) ≡ true
    mapped_then there = mapped_on m t laid m1 u answer out out' ran memory (so.mapped there)

    pub goes_so : stopped_by stops answer ≡ None → IsUnderWay (had + 1) m1 u out'
    goes_so e =
        let counts : suc had ≡ had + 1 = omega arith in
        subst (λ n. IsUnderWay n m1 u out') counts
        (record {
          among = λ s number a. subst (λ (x : TasksState). IsAmong x number u) (changed_again s number t u) (among_changed (with_changed s (seen_as number t)) number t u (so.among s number a));
          left = λ s number a. first s number a
              ∙ (goes_on m t laid m1 u answer out out' ran memory stops (turns - suc had) had (with_changed s (seen_as number t)) number (so.among s number a) e
              ∙ ap (λ (x : TasksState). run_from (turns - suc had) stops number (record { tasks = x; memory = m1; turns = suc had; state = IsReady; out = out' })) (changed_again s number t u));
          mapped = mapped_then;
          undo = ap (λ (x : MemoryState). x.undo) memory ∙ so.undo;
        })

    pub stops_so : (state : TaskState) → stopped_by stops answer ≡ Some state → (s : TasksState) (number : ℕ) → IsAmong s number t0
        → IsRun (whole s number) (tasks_left s number u state) (memory_left m1 u state) (record { turns = had + 1; state = state }) out'
    stops_so state e s number a =
        let counts : suc had ≡ had + 1 = omega arith in
        is_run (whole s number) (tasks_left s number u state) (memory_left m1 u state) (had + 1) state out'
        (first s number a
        ∙ (stopped m t laid m1 u answer out out' ran memory stops (turns - suc had) had (with_changed s (seen_as number t)) number (so.among s number a) state e
        ∙ (ap (λ (x : TasksState). let y : Going = record { tasks = x; memory = memory_left m1 u state; turns = suc had; state = state; out = out' } in y) (left_again s number t u state)
        ∙ ap (λ n. let y : Going = record { tasks = tasks_left s number u state; memory = memory_left m1 u state; turns = n; state = state; out = out' } in y) counts)))
