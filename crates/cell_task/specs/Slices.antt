-- The slice of a task: its turns, one after another.
--     stopped_by stops answer        how a task stands that goes no further in its slice
--     Going                          tasks, memory and output so far, how many turns there were, and how the task stands
--     run_from n stops task at       at most n more turns of the task
--     IsRun x s m ..                 tasks, memory, answer and output are those of x
use Rattle.std.specs.Prelude.{ℕ, zero, suc, ◌≡◌, Bool, List, ◌++◌, Option, Some, None, if◌then◌else◌}
use Rattle.cell_mem.specs.State.{MemoryState, unmapped}
use Rattle.cell_world.specs.declared.reply.TaskState.{TaskState}
use Rattle.cell_world.specs.declared.reply.TaskState.TheVariants.{Ready as IsReady, Done as IsDone, Fault as IsFault}
use Rattle.cell_world.specs.World.{Task}
use Rattle.cell_world.specs.Running.Turn.{Turned}
use Rattle.cell_task.specs.declared.slice.Ran.{Ran}
use Rattle.cell_task.specs.declared.task.Task.{Task as LiveTask}
use Rattle.cell_task.specs.declared.turned.Turned.{Turned as Answer}
use Rattle.cell_task.specs.declared.turned.Turned.TheVariants.{Ready, Yield, Done, Fault}
use Rattle.cell_task.specs.State.{TasksState, live_in, seen_as, with_changed, without}
use Rattle.cell_task.specs.Turns.{answer_of, memory_after, turned_in}

-- how a task stands that goes no further after the turn; None where it goes on
abbrev pub stopped_by : Bool → Answer → Option TaskState
stopped_by stops Ready = None
stopped_by stops Yield = if stops then Some IsReady else None
stopped_by stops (Done code) = Some (IsDone code)
stopped_by stops (Fault cause pc) = Some (IsFault cause pc)

pub record Going : Type 0 where
  pub tasks : TasksState
  pub memory : MemoryState
  pub turns : ℕ
  pub state : TaskState
  pub out : List ℕ

-- before the first turn
abbrev pub begun : TasksState → MemoryState → List ℕ → Going
begun s m out = record { tasks = s; memory = m; turns = 0; state = IsReady; out = out }

-- after one more turn of the task t
abbrev pub one_more : Going → Task → Turned → TaskState → Going
one_more at t after state =
    record {
      tasks = record at.tasks { tasks = after.world.tasks };
      memory = memory_after at.memory t after;
      turns = suc at.turns;
      state = state;
      out = at.out ++ after.out;
    }

-- at most n more turns, fewer where the task is stopped
abbrev pub run_from : ℕ → Bool → ℕ → Going → Going
run_from zero stops task at = at
run_from (suc n) stops task at =
    elim (live_in at.tasks task) [
      | None ↦ at
      | Some t ↦
          let after = turned_in at.tasks at.memory t in
          elim (stopped_by stops (answer_of after)) [
            | None ↦ run_from n stops task (one_more at t after IsReady)
            | Some state ↦ one_more at t after state
          ]
    ]

-- tasks, memory, answer and output are these
pub record IsRun (x : Going) (s : TasksState) (m : MemoryState) (answer : Ran) (out : List ℕ) : Type 0 where
  pub tasks : s ≡ x.tasks
  pub memory : m ≡ x.memory
  pub turns : answer.turns ≡ x.turns
  pub state : answer.state ≡ x.state
  pub put_out : out ≡ x.out

-- the live task t is the one of that number
pub record IsAmong (s : TasksState) (number : ℕ) (t : LiveTask) : Type 0 where
  pub live : live_in s number ≡ Some (seen_as number t)
  pub stands : with_changed s (seen_as number t) ≡ s

-- the tasks where this one stands so; where it ended, it is taken away
abbrev pub tasks_left : TasksState → ℕ → LiveTask → TaskState → TasksState
tasks_left s number t IsReady = with_changed s (seen_as number t)
tasks_left s number t (IsDone code) = without (with_changed s (seen_as number t)) number
tasks_left s number t (IsFault cause pc) = with_changed s (seen_as number t)

-- the memory where it stands so; where it ended, without its stack
abbrev pub memory_left : MemoryState → LiveTask → TaskState → MemoryState
memory_left m t IsReady = m
memory_left m t (IsDone code) = unmapped m t.stack
memory_left m t (IsFault cause pc) = m
