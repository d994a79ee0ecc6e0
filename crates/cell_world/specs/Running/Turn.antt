-- One turn of a task, and many.
--     task_column           the column of a task's calls
--     turn w t              an instruction of the task, or its call
--     turns_of n w task     at most n turns, fewer where it ends or faults
--     slice_of n w task     at most n turns, fewer also where it yields
use Rattle.std.specs.Prelude.{ℕ, zero, suc, ◌%◌, ◌==◌, Bool, true, false, not, List, [], ◌∷◌, ◌++◌, Some, None, map, filter, slice_index, decimal, if◌then◌else◌}
use Rattle.cell_world.specs.declared.reply.TaskState.{TaskState}
use Rattle.cell_world.specs.declared.reply.TaskState.TheVariants.{Ready, Done, Fault as Faulted}
use Rattle.cell_world.specs.declared.reply.TaskRun.{TaskRun}
use Rattle.cell_world.specs.World.{World, Region, Task, task_of}
use Rattle.cell_world.specs.Running.Execute.{seen_in}
use Rattle.cell_world.specs.Running.Move.{Hart, Row, Column, Ends, Yields, PutsOut, Refuses, Move, move}

-- x17 has the number of the call: 0 ends, 1 puts out a byte, 2 a number, 3 yields
abbrev pub task_row : List ℕ → Row
task_row registers =
    let number = slice_index registers 17 in
    let x10 = slice_index registers 10 in
    if number == 0 then Ends else
    if number == 1 then PutsOut (x10 % 256 ∷ []) else
    if number == 2 then PutsOut (decimal x10) else
    if number == 3 then Yields else Refuses

-- it doesn't hang on the memory
abbrev pub task_column : Column
task_column m = task_row

-- the world after a turn, how the task is, whether it yields, and what it puts out
pub record Turned : Type 0 where
  pub world : World
  pub state : TaskState
  pub yields : Bool
  pub out : List ℕ

abbrev pub with_task : Task → List Task → List Task
with_task t tasks = map (λ u. if u.number == t.number then t else u) tasks

abbrev pub without_region : ℕ → List Region → List Region
without_region start regions = filter (λ r. not (r.start == start)) regions

-- the task is no longer live, and its stack is gone
abbrev pub without_task : World → Task → World
without_task w t =
    record w { tasks = filter (λ u. not (u.number == t.number)) w.tasks; regions = without_region t.stack w.regions }

-- the machine with the task as it stands
abbrev pub standing : World → Task → TaskState → World
standing w t Ready = record w { tasks = with_task t w.tasks }
standing w t (Done code) = without_task w t
standing w t (Faulted cause pc) =
    record w { tasks = with_task (record t { fault = Some (record { cause = cause; pc = pc }) }) w.tasks }

abbrev pub hart_of : Task → Hart
hart_of t = record { pc = t.pc; registers = t.registers }

abbrev pub turned : World → Task → Move → Turned
turned w t after =
    record {
      world = standing (record w { regions = after.regions }) (record t { pc = after.hart.pc; registers = after.hart.registers }) after.state;
      state = after.state;
      yields = after.yields;
      out = after.out;
    }

abbrev pub turn : World → Task → Turned
turn w t = turned w t (move task_column (seen_in w) (hart_of t))

-- the turns that a task has had, and the world after them
pub record Ran : Type 0 where
  pub world : World
  pub run : TaskRun

abbrev pub ran : World → ℕ → ℕ → TaskState → List ℕ → Ran
ran w task turns state out =
    record { world = w; run = record { task = task; turns = turns; state = state; out = out } }

-- at most n more turns of the task, which has had some and put something out. stops says whether it stops at a yield
abbrev pub turns_from : ℕ → Bool → ℕ → ℕ → List ℕ → World → Ran
turns_from zero stops task had out w = ran w task had Ready out
turns_from (suc n) stops task had out w =
    elim (task_of w task) [
      | None ↦ ran w task had Ready out
      | Some t ↦
          let after = turn w t in
          let all = out ++ after.out in
          elim after.state [
            | Ready ↦ elim (if stops then after.yields else false) [
              | true ↦ ran after.world task (suc had) Ready all
              | false ↦ turns_from n stops task (suc had) all after.world
            ]
            | Done code ↦ ran after.world task (suc had) (Done code) all
            | Faulted cause pc ↦ ran after.world task (suc had) (Faulted cause pc) all
          ]
    ]

abbrev pub turns_of : ℕ → World → ℕ → Ran
turns_of n w task = turns_from n false task 0 [] w

abbrev pub slice_of : ℕ → World → ℕ → Ran
slice_of n w task = turns_from n true task 0 [] w
