-- The tasks as contracts see them.
--     TasksState               the live tasks, and the number of the next one
--     seen_as number t         the task of the machine that t is
--     live_in s number         the live task of that number
use Rattle.std.specs.Prelude.{◌≡◌, ℕ, suc, ◌==◌, not, List, [], ◌∷◌, ◌++◌, Option, Some, None, filter, find, option_map}
use Rattle.cell_world.specs.Running.Turn.{with_task}
use Rattle.cell_world.specs.World.{Task, Fault}
use Rattle.cell_task.specs.declared.task.Task.{Task as LiveTask}
use Rattle.cell_task.specs.declared.task.TaskFault.{TaskFault}

-- by rising numbers
pub record TasksState : Type 0 where
  pub tasks : List Task
  pub next : ℕ

abbrev pub no_tasks : TasksState
no_tasks = record { tasks = []; next = 1 }

abbrev pub fault_as : TaskFault → Fault
fault_as fault = record { cause = fault.cause; pc = fault.pc }

abbrev pub seen_as : ℕ → LiveTask → Task
seen_as number t =
    record {
      number = number;
      origin = t.origin;
      root = t.root.0;
      stack = t.stack;
      pc = t.hart.pc;
      registers = t.hart.x;
      fault = option_map fault_as t.fault;
    }

abbrev pub live_in : TasksState → ℕ → Option Task
live_in s number = find (λ t. t.number == number) s.tasks

-- with one more task, which has the next number
abbrev pub with_new : TasksState → Task → TasksState
with_new s t = record { tasks = s.tasks ++ t ∷ []; next = suc s.next }

-- with the task in the place of the one of its number
abbrev pub with_changed : TasksState → Task → TasksState
with_changed s t = record s { tasks = with_task t s.tasks }

abbrev pub without : TasksState → ℕ → TasksState
without s number = record s { tasks = filter (λ t. not (t.number == number)) s.tasks }

-- the live task of that number is there, and ready
pub record IsReady (s : TasksState) (number : ℕ) : Type 0 where
  pub task : Task
  pub live : live_in s number ≡ Some task
  pub ready : task.fault ≡ None
