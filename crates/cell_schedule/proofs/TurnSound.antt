-- A turn of a live task keeps the machine sound, and is the turn of the machine.
use Rattle.std.proofs.Common.{◌≡◌, refl, sym, ◌∙◌, ap, subst, ◌≤◌, ◌<◌, ℕ, ◌*◌, Bool, true, false, List, ◌++◌, Some}
use Rattle.std.specs.Prelude.{◌==◌, ◌-◌}
use Rattle.std.proofs.lemmas.Bool.{eqb-true}
use Rattle.cell_world.specs.Placed.Pages.{filled, is_taken_run}
use Rattle.cell_lemmas.proofs.Tasks.TurnKept.{turn_cells}
use Rattle.cell_mem.specs.State.{MemoryState, is_sealed, unmapped}
use Rattle.cell_hart.specs.Step.{seen_of}
use Rattle.cell_hart.proofs.Alike.{execute_alike}
use Rattle.cell_place.specs.Space.{SpaceState}
use Rattle.cell_world.specs.declared.reply.TaskState.{TaskState}
use Rattle.cell_world.specs.declared.reply.TaskState.TheVariants.{Ready, Done, Fault as Faulted}
use Rattle.cell_world.specs.World.{World, Region, Task, task_of}
use Rattle.cell_world.specs.Coherent.{IsCoherent}
use Rattle.cell_world.specs.Running.Execute.{Effect, allows, execute, seen_in}
use Rattle.cell_world.specs.Running.Move.{Move, move, moved_by}
use Rattle.cell_world.specs.Running.Turn.{Turned, hart_of, task_column, turn, turned, without_task}
use Rattle.cell_num.specs.Lists.{In}
use Rattle.cell_num.proofs.Elements.{found-In}
use Rattle.cell_lemmas.proofs.Tasks.Executed.{Stored, good_move}
use Rattle.cell_lemmas.proofs.Tasks.Turned.{stored_coherent, turn_coherent}
use Rattle.cell_task.specs.declared.turned.Turned.{Turned as Answer}
use Rattle.cell_task.specs.State.{IsReady, TasksState, live_in}
use Rattle.cell_task.specs.Turns.{IsTurn, answer_of, memory_after, turned_in}
use Rattle.cell_machine.specs.declared.machine.Machine.{Machine}
use Rattle.cell_machine.specs.Machine.{IsSound, world_of}
use Rattle.cell_schedule.specs.Ends.{IsEnded, stack_run}
use Rattle.cell_schedule.specs.Turns.{HasTurned, IsCounted, space_after}
use Rattle.cell_schedule.proofs.Marks.{marks_are_fields}
use Rattle.cell_schedule.proofs.Parts.{bare, parts, within}
use Rattle.cell_schedule.proofs.Regions.{allowed_inside, size_stored, table_stored}
use Rattle.cell_schedule.proofs.Ended.{ended_sound, maps_ended, patches_ended, stack_above, stack_given, stack_low, world_ended}
use Rattle.cell_schedule.proofs.Ways.{Leaves, leaves}

-- what a turn that leaves the machine in that state makes of the parts
record Afterwards (old m : Machine) (v : World) : Type 0 where
  pub sound : IsSound m
  pub counted : IsCounted old m
  pub world : world_of m ≡ v

module _ (old : Machine) (sound : IsSound old) where
  abbrev w : World
  w = world_of old

  coherent : IsCoherent w
  coherent = sound.coherent

  -- the memory's marks are the fields
  agree : (addr n : ℕ) → 1 ≤ n → allows old.memory.regions (λ p. p.write) addr n ≡ true → is_sealed old.memory addr n ≡ (seen_in w).is_sealed addr n
  agree addr n some may =
      let inside = allowed_inside w coherent addr n may in
      ap (λ (sealed : List Bool). is_sealed (record old.memory { sealed = sealed }) addr n) sound.seals
      ∙ marks_are_fields old.memory.base (4096 * old.memory.pages) (world_of old).cells old.cells.items sound.joined.placed addr n some inside.0 inside.1

  alike : (t : Task) → execute (seen_of old.memory) t.registers t.pc ≡ execute (seen_in w) t.registers t.pc
  alike t = execute_alike old.memory.regions (λ addr n. is_sealed old.memory addr n) (seen_in w).is_sealed agree t.registers t.pc

  -- the turn among tasks and regions is the turn in the machine
  pub turn_within : (t : Task) → turn w t ≡ within w (turned_in old.tasks old.memory t)
  turn_within t =
      parts w t (move task_column (seen_in w) (hart_of t)) ∙ ap (λ (e : Effect). within w (turned (bare w) t (moved_by task_column (seen_in w) (hart_of t) e))) (sym (alike t))

  -- other tasks, and regions that differ in bytes alone
  abbrev with_tasks : List Region → List Task → Machine
  with_tasks regions tasks = record old { tasks = record old.tasks { tasks = tasks }; memory = record old.memory { regions = regions } }

  sound_with : (regions : List Region) (tasks : List Task) → Stored (seen_in w) regions → IsCoherent (record w { regions = regions; tasks = tasks }) → IsSound (with_tasks regions tasks)
  sound_with regions tasks s c = record {
    coherent = c;
    parts = record {
      joined = sound.joined;
      table = sound.table ∙ sym (table_stored w coherent regions s);
      base = sound.base;
      soft = sound.soft;
      sections = sound.sections;
      seals = sound.seals;
      patches = sound.patches;
      maps = sound.maps;
    };
    undo = sound.undo;
  }

  module _ (t : Task) (number : ℕ) (live : live_in old.tasks number ≡ Some t) where
    abbrev there : In t w.tasks
    there = (found-In (λ u. u.number == number) w.tasks t live).0

    pub by_number : task_of w t.number ≡ Some t
    by_number = subst (λ (n : ℕ). live_in old.tasks n ≡ Some t) (sym (eqb-true t.number number (found-In (λ u. u.number == number) w.tasks t live).1)) live

    -- the machine with what a turn makes of its parts
    abbrev after : Turned → Machine
    after y = record old {
      tasks = record old.tasks { tasks = y.world.tasks };
      memory = memory_after old.memory t y;
      space = space_after y.state old.space t.stack;
    }

    -- what the turn of a sound machine is
    record IsSoundTurn (y : Turned) : Type 0 where
      pub regions : List Region
      pub stored : Stored (seen_in w) regions
      pub leaves : Leaves w t regions y.state y.world
      pub kept : record y.world { regions = w.regions; tasks = w.tasks } ≡ w
      pub coherent : IsCoherent y.world

    is_sound_turn : IsSoundTurn (turn w t)
    is_sound_turn =
        let after : Move = move task_column (seen_in w) (hart_of t) in
        record {
          regions = after.regions;
          stored = (good_move (seen_in w) (hart_of t) task_column).stored;
          leaves = leaves w t after;
          kept = turn_cells w t coherent by_number;
          coherent = turn_coherent w coherent t there;
        }

    going : (y : Turned) → Stored (seen_in w) y.world.regions → record y.world { regions = w.regions; tasks = w.tasks } ≡ w → IsCoherent y.world → Afterwards old (with_tasks y.world.regions y.world.tasks) y.world
    going y stored kept c =
        let is : y.world ≡ record w { regions = y.world.regions; tasks = y.world.tasks } = ap (λ (v : World). record v { regions = y.world.regions; tasks = y.world.tasks }) kept in
        record {
          sound = sound_with y.world.regions y.world.tasks stored (subst IsCoherent is c);
          counted = record { patches = refl; maps = refl };
          world = sym is;
        }

    -- the machine before the task's end
    abbrev before_end : List Region → Machine
    before_end regions = with_tasks regions old.tasks.tasks

    done : (y : Turned) (code : ℕ) → y.state ≡ Done code → (regions : List Region) → Stored (seen_in w) regions → y.world ≡ without_task (record w { regions = regions }) t → Afterwards old (after y) y.world
    done y code state regions stored is =
        let mid : IsSound (before_end regions) = sound_with regions old.tasks.tasks stored (stored_coherent w coherent regions stored) in
        let ends : IsEnded (before_end regions) t (after y) = record {
          cells = refl;
          soft = refl;
          next = refl;
          swaps = refl;
          namespaces = refl;
          known = refl;
          sections = refl;
          rows = refl;
          space = ap (λ (s : TaskState). space_after s old.space t.stack) state;
          memory = memory_is;
          tasks = ap (λ (v : World). record old.tasks { tasks = v.tasks }) is;
        } in
        record {
          sound = ended_sound (before_end regions) mid t by_number (after y) ends;
          counted = record {
            patches = patches_ended (before_end regions) mid t by_number (after y) ends;
            maps = maps_ended (before_end regions) mid t by_number (after y) ends;
          };
          world = world_ended (before_end regions) mid t by_number (after y) ends ∙ sym is;
        }
      where
        memory_is : memory_after old.memory t y ≡ unmapped (before_end regions).memory t.stack
        memory_is =
            ap (λ (s : TaskState). memory_after old.memory t (record y { state = s })) state
            ∙ (ap (λ (v : World). record (unmapped old.memory t.stack) { regions = v.regions }) is
            ∙ ap (λ (n : ℕ). record (unmapped (before_end regions).memory t.stack) { sealed = filled old.memory.sealed (t.stack - old.memory.base) n false }) (sym (size_stored w coherent regions stored t.stack)))

    afterwards : (v : World) (state : TaskState) (yields : Bool) (out : List ℕ) → IsSoundTurn (record { world = v; state = state; yields = yields; out = out })
        → Afterwards old (after (record { world = v; state = state; yields = yields; out = out })) v
    afterwards v (Done code) yields out s = done (record { world = v; state = Done code; yields = yields; out = out }) code refl s.regions s.stored s.leaves
    afterwards v Ready yields out s = going (record { world = v; state = Ready; yields = yields; out = out }) (subst (Stored (seen_in w)) (sym s.leaves) s.stored) s.kept s.coherent
    afterwards v (Faulted cause pc) yields out s = going (record { world = v; state = Faulted cause pc; yields = yields; out = out }) (subst (Stored (seen_in w)) (sym s.leaves) s.stored) s.kept s.coherent

    pub has_turned : (out out' : List ℕ) (answer : Answer) (tasks : TasksState) (memory : MemoryState) (space : SpaceState)
        → IsTurn old.tasks old.memory t out answer tasks memory out' → space ≡ space_after (turned_in old.tasks old.memory t).state old.space t.stack
        → HasTurned old t out answer (record old { tasks = tasks; memory = memory; space = space }) out'
    has_turned out out' answer tasks memory space is gives =
        let x : Turned = turned_in old.tasks old.memory t in
        let whole : turn w t ≡ within w x = turn_within t in
        let a : Afterwards old (after (turn w t)) (turn w t).world = afterwards (turn w t).world (turn w t).state (turn w t).yields (turn w t).out is_sound_turn in
        let new : record old { tasks = tasks; memory = memory; space = space } ≡ after (turn w t) =
        ap (λ (m : MemoryState). record old { tasks = tasks; memory = m; space = space }) is.memory
        ∙ (ap (λ (s : TasksState). record old { tasks = s; memory = memory_after old.memory t x; space = space }) is.tasks
        ∙ (ap (λ (s : SpaceState). record old { tasks = record old.tasks { tasks = x.world.tasks }; memory = memory_after old.memory t x; space = s }) gives
        ∙ ap after (sym whole))) in
        record {
          sound = subst IsSound (sym new) a.sound;
          counted = subst (IsCounted old) (sym new) a.counted;
          answered = is.answered ∙ ap answer_of (sym whole);
          world = ap world_of new ∙ a.world;
          put_out = is.put_out ∙ ap (λ (y : Turned). out ++ y.out) (sym whole);
        }

-- what the end of a ready task may ask of its stack
pub record HasStack (m : Machine) (stack : ℕ) : Type 0 where
  pub above : m.space.base ≤ stack
  pub low : (stack_run m.space.base stack).page < 4096
  pub taken : is_taken_run m.space.taken (stack_run m.space.base stack).page 4 ≡ true

pub has_stack : (m : Machine) → IsSound m → (number stack : ℕ) → IsReady m.tasks number → ((t : Task) → live_in m.tasks number ≡ Some t → t.stack ≡ stack) → HasStack m stack
has_stack m sound number stack ready same =
    subst (HasStack m) (same ready.task ready.live)
    (record { above = stack_above m sound ready.task (by_number m sound ready.task number ready.live); low = stack_low m sound ready.task (by_number m sound ready.task number ready.live); taken = stack_given m sound ready.task (by_number m sound ready.task number ready.live) })
