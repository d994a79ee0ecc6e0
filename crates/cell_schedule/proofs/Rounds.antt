-- Turns of one task after another: a slice of one leaves the others as they were.
use Rattle.std.proofs.Common.{◌≡◌, refl, sym, ◌∙◌, ap, subst, arith, ℕ, zero, suc, inl, inr, Bool, true, false, cond, List, [], ◌∷◌, ◌++◌, append_assoc, map, Option, Some, None}
use Rattle.std.specs.Prelude.{◌==◌, filter, fold, if◌then◌else◌, nat_lt, option_map, unwrap_or}
use Rattle.std.specs.List.{list_all}
use Rattle.std.proofs.lemmas.List.{map-append}
use Rattle.std.proofs.lemmas.Bool.{eqb-true}
use Rattle.cell_num.specs.Lists.{each_pair, In}
use Rattle.cell_world.specs.declared.reply.Reply.TheVariants.{Run as RunDone}
use Rattle.cell_world.specs.declared.reply.TaskRun.{TaskRun}
use Rattle.cell_world.specs.declared.reply.TaskState.{TaskState}
use Rattle.cell_world.specs.declared.reply.TaskState.TheVariants.{Ready, Done, Fault as Faulted}
use Rattle.cell_world.specs.World.{Fault, World, Task, is_ready, task_of}
use Rattle.cell_world.specs.Answer.{done}
use Rattle.cell_world.specs.Commands.TaskCommands.{Round, next_run, run_task}
use Rattle.cell_world.specs.Running.Turn.{Ran, ran, slice_of, turn, turns_from}
use Rattle.cell_num.proofs.Elements.{all-In, filter-Passes, found-In, pairs-map}
use Rattle.cell_num.proofs.Sublists.{and_left, and_right, filter_same, map_filter, pairs-filter}
use Rattle.cell_task.specs.State.{IsReady, TasksState, live_in}
use Rattle.cell_machine.specs.declared.machine.Machine.{Machine}
use Rattle.cell_machine.specs.Machine.{IsSound, world_of}
use Rattle.cell_schedule.specs.declared.round.Due.{Due}
use Rattle.cell_machine.specs.Does.{HasDone}
use Rattle.cell_schedule.specs.Rounds.{AreDue, HasGone, HasRoom, HaveRoom, can_turn, gone_round, numbers_due}
use Rattle.cell_schedule.specs.Turns.{HasRun, IsCounted}
use Rattle.cell_schedule.proofs.Lines.{found_own}
use Rattle.cell_schedule.proofs.Others.{other_task}
use Rattle.cell_schedule.proofs.Slices.{after_turn, counted_then}
use Rattle.cell_machine.proofs.Counts.{counts_stand}

-- a slice leaves every other task
pub slice_others : (n : ℕ) (stops : Bool) (task had : ℕ) (out : List ℕ) (w : World) (k : ℕ) → (task == k) ≡ false → task_of (turns_from n stops task had out w).world k ≡ task_of w k
slice_others zero stops task had out w k other = refl
slice_others (suc n) stops task had out w k other = go (task_of w task) refl (λ more v. slice_others n stops task (suc had) more v k other)
  where
    after : (t : Task) → task_of (turn w t).world k ≡ task_of w k → ((more : List ℕ) (v : World) → task_of (turns_from n stops task (suc had) more v).world k ≡ task_of v k)
        → (state : TaskState) (yields : Bool) → task_of (after_turn n stops task had out (record (turn w t) { state = state; yields = yields })).world k ≡ task_of w k
    after t same rec Ready yields = stop (if stops then yields else false)
      where
        stop : (b : Bool) → task_of (elim b as (λ _. Ran) [ true ↦ ran (turn w t).world task (suc had) Ready (out ++ (turn w t).out) | false ↦ turns_from n stops task (suc had) (out ++ (turn w t).out) (turn w t).world ]).world k ≡ task_of w k
        stop true = same
        stop false = rec (out ++ (turn w t).out) (turn w t).world ∙ same
    after t same rec (Done code) yields = same
    after t same rec (Faulted cause pc) yields = same

    go : (o : Option Task) → task_of w task ≡ o → ((more : List ℕ) (v : World) → task_of (turns_from n stops task (suc had) more v).world k ≡ task_of v k)
        → task_of (elim o as (λ _. Ran) [ None ↦ ran w task had Ready out | Some t ↦ after_turn n stops task had out (turn w t) ]).world k ≡ task_of w k
    go None e rec = refl
    go (Some t) e rec =
        after t (other_task w t k (ap (λ i. i == k) (eqb-true t.number task (found-In (λ u. u.number == task) w.tasks t e).1) ∙ other)) rec (turn w t).state (turn w t).yields

lower : (a b : ℕ) → nat_lt a b ≡ true → (a == b) ≡ false
lower a b h = grind (arith, h)

-- one more that is due
pub room_more : (turns : ℕ) (due : List Due) (d : Due) → HaveRoom turns due → HasRoom turns d → HaveRoom turns (due ++ d ∷ [])
room_more turns [] d all this e (inl is) = subst (HasRoom turns) (sym is) this
room_more turns [] d all this e (inr i) = absurd i
room_more turns (c ∷ due) d all this e (inl is) = all e (inl is)
room_more turns (c ∷ due) d all this e (inr i) = room_more turns due d (λ x k. all x (inr k)) this e i

module _ (p : ℕ → Bool) (number : ℕ) (rest all : List ℕ) where
  pub due_more : (due : List Due) (d : Due) → d.task ≡ number → p number ≡ true → numbers_due due ++ filter p (number ∷ rest) ≡ all → numbers_due (due ++ d ∷ []) ++ filter p rest ≡ all
  due_more due d is passes e =
      ap (λ ns. ns ++ filter p rest) (map-append (λ (d : Due). d.task) due (d ∷ []))
      ∙ (append_assoc (numbers_due due) (d.task ∷ []) (filter p rest)
      ∙ (ap (λ n. numbers_due due ++ n ∷ filter p rest) is
      ∙ (ap (λ b. numbers_due due ++ cond b (number ∷ filter p rest) (filter p rest)) (sym passes) ∙ e)))

  pub due_less : (due : List Due) → p number ≡ false → numbers_due due ++ filter p (number ∷ rest) ≡ all → numbers_due due ++ filter p rest ≡ all
  due_less due fails e = ap (λ b. numbers_due due ++ cond b (number ∷ filter p rest) (filter p rest)) (sym fails) ∙ e

-- the tasks that are due stay so while another has its turns
module _ (s : TasksState) (turns : ℕ) (d : Due) (due : List Due) (are : AreDue s turns (d ∷ due)) where
  pub first_ready : IsReady s d.task
  first_ready = are.ready d.task (inl refl)

  pub first_room : HasRoom turns d
  first_room = are.room d (inl refl)

  pub still_due : (s' : TasksState) → ((k : ℕ) → (d.task == k) ≡ false → live_in s' k ≡ live_in s k) → AreDue s' turns due
  still_due s' same = record {
    ready = λ k i. go k (are.ready k (inr i)) (lower d.task k (all-In (nat_lt d.task) (numbers_due due) (and_left (list_all (nat_lt d.task) (numbers_due due)) (each_pair nat_lt (numbers_due due)) are.rising) k i));
    rising = and_right (list_all (nat_lt d.task) (numbers_due due)) (each_pair nat_lt (numbers_due due)) are.rising;
    room = λ e i. are.room e (inr i);
  }
    where
      go : (k : ℕ) → IsReady s k → (d.task == k) ≡ false → IsReady s' k
      go k r other = record { task = r.task; live = same k other ∙ r.live; ready = r.ready }

-- a round so far: the tasks that are left are due, and with their turns it is all of it
pub record IsOnWay (old : Machine) (turns : ℕ) (numbers : List ℕ) (now : Machine) (runs : List TaskRun) (rest : List Due) : Type 0 where
  pub sound : IsSound now
  pub counted : IsCounted old now
  pub due : AreDue now.tasks turns rest
  pub left : gone_round (world_of old) turns numbers ≡ fold (run_task turns) (record { world = world_of now; runs = runs }) (numbers_due rest)

pub round_begun : (m : Machine) (turns : ℕ) (due : List Due) → IsSound m → AreDue m.tasks turns due → IsOnWay m turns (numbers_due due) m [] due
round_begun m turns due sound are = record {
  sound = sound;
  counted = record { patches = refl; maps = refl };
  due = are;
  left = refl;
}

module _ (old : Machine) (turns : ℕ) (numbers : List ℕ) (now : Machine) (runs : List TaskRun) (d : Due) (rest : List Due) (so : IsOnWay old turns numbers now runs (d ∷ rest)) where
  pub round_more : (run : TaskRun) (new : Machine) → HasRun now (turns_from turns true d.task 0 [] (world_of now)) run new → IsOnWay old turns numbers new (runs ++ run ∷ []) rest
  round_more run new h = record {
    sound = h.sound;
    counted = counted_then old now new so.counted h.counted;
    due = still_due now.tasks turns d rest so.due new.tasks (λ k other. ap (λ (w : World). task_of w k) h.world ∙ slice_others turns true d.task 0 [] (world_of now) k other);
    left =
        so.left
        ∙ (ap (λ (w : World). fold (run_task turns) (record { world = w; runs = runs ++ (slice_of turns (world_of now) d.task).run ∷ [] }) (numbers_due rest)) (sym h.world)
        ∙ ap (λ (r : TaskRun). fold (run_task turns) (record { world = world_of new; runs = runs ++ r ∷ [] }) (numbers_due rest)) (sym h.is));
  }

pub round_done : (old : Machine) (turns : ℕ) (numbers : List ℕ) (now : Machine) (runs : List TaskRun) → IsOnWay old turns numbers now runs [] → HasGone old turns numbers runs now
round_done old turns numbers now runs so = record {
  sound = so.sound;
  counted = so.counted;
  world = ap (λ (r : Round). r.world) (sym so.left);
  are = ap (λ (r : Round). r.runs) (sym so.left);
}

-- the ready tasks of a sound machine are due
module _ (m : Machine) (sound : IsSound m) where
  abbrev tasks : List Task
  tasks = m.tasks.tasks

  own_turn : (t : Task) → In t tasks → can_turn m.tasks t.number ≡ is_ready t
  own_turn t i = ap (λ o. unwrap_or (option_map is_ready o) false) (found_own tasks sound.coherent.ready.task_order t i)

  pub ready_numbers : filter (can_turn m.tasks) (map (λ t. t.number) tasks) ≡ map (λ t. t.number) (filter is_ready tasks)
  ready_numbers =
      sym (map_filter (λ (t : Task). t.number) (can_turn m.tasks) tasks)
      ∙ ap (map (λ (t : Task). t.number)) (filter_same (λ (t : Task). can_turn m.tasks t.number) is_ready tasks own_turn)

  turn_ready : (number : ℕ) → can_turn m.tasks number ≡ true → IsReady m.tasks number
  turn_ready number h = go (live_in m.tasks number) refl h
    where
      without_fault : (t : Task) → is_ready t ≡ true → t.fault ≡ None
      without_fault t e = pick t.fault e
        where
          pick : (o : Option Fault) → (elim o as (λ _. Bool) [ None ↦ true | Some fault ↦ false ]) ≡ true → o ≡ None
          pick None e = refl
          pick (Some fault) e = cc

      go : (o : Option Task) → live_in m.tasks number ≡ o → unwrap_or (option_map is_ready o) false ≡ true → IsReady m.tasks number
      go None e h = cc
      go (Some t) e h = record { task = t; live = e; ready = without_fault t h }

  module _ (turns : ℕ) (due : List Due) (are : numbers_due due ≡ filter (can_turn m.tasks) (map (λ t. t.number) tasks)) where
    pub ready_due : HaveRoom turns due → AreDue m.tasks turns due
    ready_due room = record {
      ready = λ k i. turn_ready k (filter-Passes (can_turn m.tasks) (map (λ (t : Task). t.number) tasks) k (subst (In k) are i));
      rising = subst (λ (ns : List ℕ). each_pair nat_lt ns ≡ true) (sym are) (pairs-filter nat_lt (can_turn m.tasks) (map (λ (t : Task). t.number) tasks) (pairs-map nat_lt (λ (t : Task). t.number) tasks ∙ sound.coherent.ready.task_order));
      room = room;
    }

    pub all_gone : (runs : List TaskRun) (new : Machine) → HasGone m turns (numbers_due due) runs new → HasDone (next_run (world_of m) turns) 0 m (RunDone runs) new
    all_gone runs new h =
        let same : gone_round (world_of m) turns (numbers_due due) ≡ gone_round (world_of m) turns (map (λ (t : Task). t.number) (filter is_ready tasks)) = ap (gone_round (world_of m) turns) (are ∙ ready_numbers) in
        counts_stand (next_run (world_of m) turns) m new (RunDone runs) sound h.sound
        (ap (λ (r : Round). done (RunDone r.runs) r.world) (sym same)
        ∙ (ap (λ rs. done (RunDone rs) (gone_round (world_of m) turns (numbers_due due)).world) (sym h.are)
        ∙ ap (done (RunDone runs)) (sym h.world)))
        refl refl h.counted.patches h.counted.maps
