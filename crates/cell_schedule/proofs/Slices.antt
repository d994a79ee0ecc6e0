-- Turns of a task, one after another.
use Rattle.std.proofs.Common.{◌≡◌, refl, sym, ◌∙◌, ap, subst, arith, ◌<◌, ℕ, zero, suc, ◌+◌, Bool, true, false, List, [], ◌++◌, Option, Some, None}
use Rattle.std.specs.Prelude.{◌==◌, ◌-◌, if◌then◌else◌}
use Rattle.std.proofs.lemmas.Bool.{eqb-true}
use Rattle.cell_world.specs.declared.reply.TaskRun.{TaskRun}
use Rattle.cell_world.specs.declared.reply.TaskState.{TaskState}
use Rattle.cell_world.specs.declared.reply.TaskState.TheVariants.{Ready, Done, Fault as Faulted}
use Rattle.cell_world.specs.World.{World, Task, task_of}
use Rattle.cell_world.specs.Running.Turn.{Ran, Turned, ran, turn, turns_from}
use Rattle.cell_num.proofs.Elements.{found-In}
use Rattle.cell_task.specs.declared.turned.Turned.{Turned as Answer}
use Rattle.cell_mem.specs.State.{MemoryState}
use Rattle.cell_task.specs.State.{IsReady, TasksState, live_in}
use Rattle.cell_task.specs.Ran.{answered}
use Rattle.cell_task.specs.declared.slice.Ran.{Ran as AnswerOf}
use Rattle.cell_task.specs.Slices.{Going, IsRun, begun as first_of, run_from, stopped_by}
use Rattle.cell_task.specs.Turns.{answer_of, memory_after, turned_in}
use Rattle.cell_task.proofs.Slicing.{one_turn as first_turn, rest}
use Rattle.cell_place.specs.Space.{SpaceState}
use Rattle.cell_machine.specs.declared.machine.Machine.{Machine}
use Rattle.cell_machine.specs.Machine.{IsSound, world_of}
use Rattle.cell_schedule.specs.Turns.{HasRun, HasTurned, IsCounted, space_after}
use Rattle.cell_schedule.proofs.Others.{GoesOn, goes_on}
use Rattle.cell_schedule.proofs.TurnSound.{has_turned}

-- how a slice goes on where the turn doesn't stop it
abbrev going_on : ℕ → Bool → ℕ → ℕ → List ℕ → World → Option TaskState → Ran
going_on n stops task had out w None = turns_from n stops task had out w
going_on n stops task had out w (Some state) = ran w task had state out

-- the rest of a slice after a turn
abbrev pub after_turn : ℕ → Bool → ℕ → ℕ → List ℕ → Turned → Ran
after_turn n stops task had out y =
    elim y.state [
      | Ready ↦ elim (if stops then y.yields else false) [
        | true ↦ ran y.world task (suc had) Ready (out ++ y.out)
        | false ↦ turns_from n stops task (suc had) (out ++ y.out) y.world
      ]
      | Done code ↦ ran y.world task (suc had) (Done code) (out ++ y.out)
      | Faulted cause pc ↦ ran y.world task (suc had) (Faulted cause pc) (out ++ y.out)
    ]

by_answer : (n : ℕ) (stops : Bool) (task had : ℕ) (out : List ℕ) (w : World) (state : TaskState) (yields : Bool) (more : List ℕ)
    → after_turn n stops task had out (record { world = w; state = state; yields = yields; out = more })
    ≡ going_on n stops task (suc had) (out ++ more) w (stopped_by stops (answer_of (record { world = w; state = state; yields = yields; out = more })))
by_answer n true task had out w Ready true more = refl
by_answer n true task had out w Ready false more = refl
by_answer n false task had out w Ready true more = refl
by_answer n false task had out w Ready false more = refl
by_answer n stops task had out w (Done code) yields more = refl
by_answer n stops task had out w (Faulted cause pc) yields more = refl

-- a slice is a turn, and the rest of the slice
one_turn : (n : ℕ) (stops : Bool) (task had : ℕ) (out : List ℕ) (w : World) (t : Task) → task_of w task ≡ Some t
    → turns_from (suc n) stops task had out w ≡ going_on n stops task (suc had) (out ++ (turn w t).out) (turn w t).world (stopped_by stops (answer_of (turn w t)))
one_turn n stops task had out w t live =
    ap (λ o. elim o as (λ _. Ran) [ None ↦ ran w task had Ready out | Some t ↦ after_turn n stops task had out (turn w t) ]) live
    ∙ by_answer n stops task had out (turn w t).world (turn w t).state (turn w t).yields (turn w t).out

-- where a turn doesn't stop the slice, the task goes on
goes_state : (stops : Bool) (w : World) (state : TaskState) (yields : Bool) (out : List ℕ) → stopped_by stops (answer_of (record { world = w; state = state; yields = yields; out = out })) ≡ None → state ≡ Ready
goes_state stops w Ready yields out e = refl
goes_state stops w (Done code) yields out e = cc
goes_state stops w (Faulted cause pc) yields out e = cc

-- the slice of a task so far: what is left of it is all of it
pub record IsUnderWay (old : Machine) (turns : ℕ) (stops : Bool) (task stack had : ℕ) (now : Machine) (out : List ℕ) : Type 0 where
  pub sound : IsSound now
  pub counted : IsCounted old now
  pub left : turns_from turns stops task 0 [] (world_of old) ≡ turns_from (turns - had) stops task had out (world_of now)
  pub ready : IsReady now.tasks task
  pub stands : (t : Task) → live_in now.tasks task ≡ Some t → t.stack ≡ stack

pub counted_then : (a b c : Machine) → IsCounted a b → IsCounted b c → IsCounted a c
counted_then a b c f g = record { patches = g.patches ∙ f.patches; maps = g.maps ∙ f.maps }

module _ (old : Machine) (turns : ℕ) (stops : Bool) (task stack had : ℕ) (now : Machine) (out : List ℕ) (so : IsUnderWay old turns stops task stack had now out) where
  abbrev t : Task
  t = so.ready.task

  by_number : t.number ≡ task
  by_number = eqb-true t.number task (found-In (λ u. u.number == task) now.tasks.tasks t so.ready.live).1

  module _ (more : had < turns) (answer : Answer) (new : Machine) (out' : List ℕ) (turned : HasTurned now t out answer new out') where
    -- all that there is after the turn
    pub all : turns_from turns stops task 0 [] (world_of old) ≡ going_on (turns - suc had) stops task (suc had) out' (world_of new) (stopped_by stops answer)
    all =
        let count : turns - had ≡ suc (turns - suc had) = omega (arith, more) in
        so.left
        ∙ (ap (λ n. turns_from n stops task had out (world_of now)) count
        ∙ (one_turn (turns - suc had) stops task had out (world_of now) t so.ready.live
        ∙ (ap (λ o. going_on (turns - suc had) stops task (suc had) o (turn (world_of now) t).world (stopped_by stops (answer_of (turn (world_of now) t)))) (sym turned.put_out)
        ∙ (ap (λ w. going_on (turns - suc had) stops task (suc had) out' w (stopped_by stops (answer_of (turn (world_of now) t)))) (sym turned.world)
        ∙ ap (λ a. going_on (turns - suc had) stops task (suc had) out' (world_of new) (stopped_by stops a)) (sym turned.answered)))))

    pub stops_so : (state : TaskState) → stopped_by stops answer ≡ Some state
        → HasRun old (turns_from turns stops task 0 [] (world_of old)) (record { task = task; turns = had + 1; state = state; out = out' }) new
    stops_so state e =
        let counts : suc had ≡ had + 1 = omega arith in
        let is : turns_from turns stops task 0 [] (world_of old) ≡ ran (world_of new) task (suc had) state out' = all ∙ ap (λ o. going_on (turns - suc had) stops task (suc had) out' (world_of new) o) e in
        subst (λ n. HasRun old (turns_from turns stops task 0 [] (world_of old)) (record { task = task; turns = n; state = state; out = out' }) new) counts
        (record {
          sound = turned.sound;
          counted = counted_then old now new so.counted turned.counted;
          world = ap (λ (r : Ran). r.world) (sym is);
          is = ap (λ (r : Ran). r.run) (sym is);
        })

    pub goes_so : stopped_by stops answer ≡ None → IsUnderWay old turns stops task stack (had + 1) new out'
    goes_so e =
        let counts : suc had ≡ had + 1 = omega arith in
        let y : Turned = turn (world_of now) t in
        let state : y.state ≡ Ready = goes_state stops y.world y.state y.yields y.out (ap (stopped_by stops) (sym turned.answered) ∙ e) in
        let g : GoesOn (world_of now) t = goes_on (world_of now) t (ap (task_of (world_of now)) by_number ∙ so.ready.live) state in
        let live : live_in new.tasks task ≡ Some g.task = ap (λ (w : World). task_of w task) turned.world ∙ (ap (task_of y.world) (sym by_number) ∙ g.live) in
        subst (λ n. IsUnderWay old turns stops task stack n new out') counts
        (record {
          sound = turned.sound;
          counted = counted_then old now new so.counted turned.counted;
          left = all ∙ ap (λ o. going_on (turns - suc had) stops task (suc had) out' (world_of new) o) e;
          ready = record { task = g.task; live = live; ready = g.fault ∙ so.ready.ready };
          stands = λ u k. ap (λ (v : Task). v.stack) (some_same u g.task (sym k ∙ live)) ∙ (g.stack ∙ so.stands t so.ready.live);
        })
      where
        some_same : (a b : Task) → Some a ≡ Some b → a ≡ b
        some_same a b e = cc

pub all_had : (old : Machine) (turns : ℕ) (stops : Bool) (task stack : ℕ) (now : Machine) (out : List ℕ) → IsUnderWay old turns stops task stack turns now out
    → HasRun old (turns_from turns stops task 0 [] (world_of old)) (record { task = task; turns = turns; state = Ready; out = out }) now
all_had old turns stops task stack now out so =
    let none : turns - turns ≡ 0 = omega arith in
    let is : turns_from turns stops task 0 [] (world_of old) ≡ ran (world_of now) task turns Ready out = so.left ∙ ap (λ n. turns_from n stops task turns out (world_of now)) none in
    record { sound = so.sound; counted = so.counted; world = ap (λ (r : Ran). r.world) (sym is); is = ap (λ (r : Ran). r.run) (sym is) }

pub begun : (old : Machine) (turns : ℕ) (stops : Bool) (task stack : ℕ) → IsSound old → IsReady old.tasks task → ((t : Task) → live_in old.tasks task ≡ Some t → t.stack ≡ stack)
    → IsUnderWay old turns stops task stack 0 old []
begun old turns stops task stack sound ready same =
    let all : turns ≡ turns - 0 = omega arith in
    record {
      sound = sound;
      counted = record { patches = refl; maps = refl };
      left = ap (λ n. turns_from n stops task 0 [] (world_of old)) all;
      ready = ready;
      stands = same;
    }

-- a task that is stopped stands as its last turn left it
stops_state : (stops : Bool) (state : TaskState) (yields : Bool) (stopped : TaskState) → stopped_by stops (answered state yields) ≡ Some stopped → state ≡ stopped
stops_state true Ready true stopped e = cc
stops_state false Ready true stopped e = absurd cc
stops_state stops Ready false stopped e = absurd cc
stops_state stops (Done code) yields stopped e = cc
stops_state stops (Faulted cause pc) yields stopped e = cc

-- the machine with what a run of its task makes of tasks, memory and pages
abbrev pub run_to : Machine → Going → ℕ → Machine
run_to m x stack = record m { tasks = x.tasks; memory = x.memory; space = space_after x.state m.space stack }

module _ (old : Machine) (turns : ℕ) (stops : Bool) (task stack : ℕ) where
  -- where its task has gone so far in the machine `now`
  abbrev so_far : Machine → ℕ → List ℕ → Going
  so_far now had out = record { tasks = now.tasks; memory = now.memory; turns = had; state = Ready; out = out }

  abbrev IsDone : Machine → Going → Type 0
  IsDone now x = HasRun old (turns_from turns stops task 0 [] (world_of old)) (record { task = task; turns = x.turns; state = x.state; out = x.out }) (run_to now x stack)

  one_more_turn : (n had : ℕ) (now : Machine) (out : List ℕ) (so : IsUnderWay old turns stops task stack had now out) → had < turns
      → ((new : Machine) (more : List ℕ) → IsUnderWay old turns stops task stack (had + 1) new more → IsDone new (run_from n stops task (so_far new (had + 1) more)))
      → IsDone now (run_from (suc n) stops task (so_far now had out))
  one_more_turn n had now out so more further =
      subst (IsDone now) (sym (first_turn stops n now.tasks task now.memory had out t answer s' m' (out ++ y.out) so.ready.live (record { answered = refl; tasks = refl; memory = refl; put_out = refl })))
      (go (stopped_by stops answer) refl)
    where
      t : Task
      t = so.ready.task

      y : Turned
      y = turned_in now.tasks now.memory t

      answer : Answer
      answer = answer_of y

      s' : TasksState
      s' = record now.tasks { tasks = y.world.tasks }

      m' : MemoryState
      m' = memory_after now.memory t y

      with_pages : SpaceState → Machine
      with_pages space = record now { tasks = s'; memory = m'; space = space }

      turned : (space : SpaceState) → space ≡ space_after y.state now.space t.stack → HasTurned now t out answer (with_pages space) (out ++ y.out)
      turned space e = has_turned now so.sound t task so.ready.live out (out ++ y.out) answer s' m' space (record { answered = refl; tasks = refl; memory = refl; put_out = refl }) e

      counts : suc had ≡ had + 1
      counts = omega arith

      go : (o : Option TaskState) → stopped_by stops answer ≡ o → IsDone now (rest n stops task s' m' (suc had) (out ++ y.out) o)
      go None e =
          let state : y.state ≡ Ready = goes_state stops y.world y.state y.yields y.out e in
          let same : now.space ≡ space_after y.state now.space t.stack = sym (ap (λ (x : TaskState). space_after x now.space t.stack) state) in
          subst (λ k. IsDone now (run_from n stops task (record { tasks = s'; memory = m'; turns = k; state = Ready; out = out ++ y.out }))) (sym counts)
          (further (with_pages now.space) (out ++ y.out) (goes_so old turns stops task stack had now out so more answer (with_pages now.space) (out ++ y.out) (turned now.space same) e))
      go (Some state) e =
          let left : y.state ≡ state = stops_state stops y.state y.yields state e in
          let same : space_after state now.space stack ≡ space_after y.state now.space t.stack =
          ap (λ (x : TaskState). space_after x now.space stack) (sym left) ∙ ap (space_after y.state now.space) (sym (so.stands t so.ready.live)) in
          subst (λ k. HasRun old (turns_from turns stops task 0 [] (world_of old)) (record { task = task; turns = k; state = state; out = out ++ y.out }) (with_pages (space_after state now.space stack))) (sym counts)
          (stops_so old turns stops task stack had now out so more answer (with_pages (space_after state now.space stack)) (out ++ y.out) (turned (space_after state now.space stack) same) state e)

  -- a run of its task is the slice of the machine
  pub runs : (n had : ℕ) (now : Machine) (out : List ℕ) → had + n ≡ turns → IsUnderWay old turns stops task stack had now out → IsDone now (run_from n stops task (so_far now had out))
  runs zero had now out e so =
      let all : had ≡ turns = omega (arith, e) in
      subst (λ k. HasRun old (turns_from turns stops task 0 [] (world_of old)) (record { task = task; turns = k; state = Ready; out = out }) now) (sym all)
      (all_had old turns stops task stack now out (subst (λ k. IsUnderWay old turns stops task stack k now out) all so))
  runs (suc n) had now out e so =
      one_more_turn n had now out so (omega (arith, e)) (λ new more so. runs n (had + 1) new more (omega (arith, e)) so)

-- so is what the tasks answer, with the pages that a task that ended gives back
pub run_is : (old : Machine) (turns : ℕ) (stops : Bool) (task stack : ℕ) → IsSound old → IsReady old.tasks task → ((t : Task) → live_in old.tasks task ≡ Some t → t.stack ≡ stack)
    → (none : List ℕ) → none ≡ [] → (s : TasksState) (m : MemoryState) (space : SpaceState) (answer : AnswerOf) (out : List ℕ) → IsRun (run_from turns stops task (first_of old.tasks old.memory none)) s m answer out
    → space ≡ space_after answer.state old.space stack → (bytes : List ℕ) → bytes ≡ out
    → HasRun old (turns_from turns stops task 0 [] (world_of old)) (record { task = task; turns = answer.turns; state = answer.state; out = bytes }) (record old { tasks = s; memory = m; space = space })
run_is old turns stops task stack sound ready same none empty s m space answer out run gives bytes said =
    subst (λ (y : Machine). HasRun old (turns_from turns stops task 0 [] (world_of old)) (record { task = task; turns = answer.turns; state = answer.state; out = bytes }) y) (sym machine)
    (subst (λ (r : TaskRun). HasRun old (turns_from turns stops task 0 [] (world_of old)) r (run_to old x stack)) (sym told)
    (runs old turns stops task stack turns 0 old [] (omega arith) (begun old turns stops task stack sound ready same)))
  where
    x : Going
    x = run_from turns stops task (first_of old.tasks old.memory [])

    is : IsRun x s m answer out
    is = subst (λ (o : List ℕ). IsRun (run_from turns stops task (first_of old.tasks old.memory o)) s m answer out) empty run

    machine : record old { tasks = s; memory = m; space = space } ≡ run_to old x stack
    machine =
        ap (λ (y : TasksState). record old { tasks = y; memory = m; space = space }) is.tasks
        ∙ (ap (λ (y : MemoryState). record old { tasks = x.tasks; memory = y; space = space }) is.memory
        ∙ ap (λ (y : SpaceState). record old { tasks = x.tasks; memory = x.memory; space = y }) (gives ∙ ap (λ (z : TaskState). space_after z old.space stack) is.state))

    told : (let a : TaskRun = record { task = task; turns = answer.turns; state = answer.state; out = bytes } in let b : TaskRun = record { task = task; turns = x.turns; state = x.state; out = x.out } in a ≡ b)
    told =
        ap (λ (n : ℕ). let r : TaskRun = record { task = task; turns = n; state = answer.state; out = bytes } in r) is.turns
        ∙ (ap (λ (z : TaskState). let r : TaskRun = record { task = task; turns = x.turns; state = z; out = bytes } in r) is.state
        ∙ ap (λ (o : List ℕ). let r : TaskRun = record { task = task; turns = x.turns; state = x.state; out = o } in r) (said ∙ is.put_out))
