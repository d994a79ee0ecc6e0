-- What a turn comes to.
--     turned_in s m t            a turn of the task among these tasks, over this memory
--     IsTurn s m t out ..        what tasks, memory and output are after it
use Rattle.std.specs.Prelude.{ℕ, ◌≡◌, List, [], ◌++◌}
use Rattle.cell_hart.specs.Step.{seen_of}
use Rattle.cell_mem.specs.State.{MemoryState, unmapped}
use Rattle.cell_world.specs.declared.reply.TaskState.TheVariants.{Ready as IsReady, Done as IsDone, Fault as IsFault}
use Rattle.cell_world.specs.World.{World, Region, Task}
use Rattle.cell_world.specs.Running.Move.{move}
use Rattle.cell_world.specs.Running.Turn.{Turned, hart_of, task_column, turned}
use Rattle.cell_task.specs.declared.turned.Turned.{Turned as Answer}
use Rattle.cell_task.specs.Ran.{answered}
use Rattle.cell_task.specs.State.{TasksState}

-- a machine of these tasks and regions alone: a turn sees and changes no other part
abbrev pub with_parts : TasksState → List Region → World
with_parts s regions =
    record {
      base = 0;
      pages = 0;
      namespaces = [];
      cells = [];
      links = [];
      regions = regions;
      tasks = s.tasks;
      next_cell = 0;
      next_task = s.next;
      swaps = 0;
    }

-- where stores go is told by the marks of the memory
abbrev pub turned_in : TasksState → MemoryState → Task → Turned
turned_in s m t = turned (with_parts s m.regions) t (move task_column (seen_of m) (hart_of t))

abbrev pub answer_of : Turned → Answer
answer_of after = answered after.state after.yields

-- a task that ends gives its stack back
abbrev pub memory_after : MemoryState → Task → Turned → MemoryState
memory_after m t after =
    elim after.state [
      | IsReady ↦ record m { regions = after.world.regions }
      | IsDone code ↦ record (unmapped m t.stack) { regions = after.world.regions }
      | IsFault cause pc ↦ record m { regions = after.world.regions }
    ]

-- tasks s, memory m and output `out` have become s', m' and out'
pub record IsTurn (s : TasksState) (m : MemoryState) (t : Task) (out : List ℕ) (answer : Answer) (s' : TasksState) (m' : MemoryState) (out' : List ℕ) : Type 0 where
  pub answered : answer ≡ answer_of (turned_in s m t)
  pub tasks : s' ≡ record s { tasks = (turned_in s m t).world.tasks }
  pub memory : m' ≡ memory_after m t (turned_in s m t)
  pub put_out : out' ≡ out ++ (turned_in s m t).out
