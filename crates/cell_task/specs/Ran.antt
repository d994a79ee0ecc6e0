-- What a turn makes of its task alone.
--     answered state yields     the answer
--     IsRan after answer ..     the task was `old` and is `new`
use Rattle.std.specs.Prelude.{◌≡◌, ℕ, Bool, List, ◌++◌, Option, Some, if◌then◌else◌}
use Rattle.cell_world.specs.declared.reply.TaskState.{TaskState}
use Rattle.cell_world.specs.declared.reply.TaskState.TheVariants.{Ready as IsReady, Done as IsDone, Fault as IsFault}
use Rattle.cell_world.specs.Running.Move.{Hart, Move}
use Rattle.cell_hart.specs.declared.hart.Hart.{Hart as LiveHart}
use Rattle.cell_task.specs.declared.task.Task.{Task as LiveTask}
use Rattle.cell_task.specs.declared.task.TaskFault.{TaskFault}
use Rattle.cell_task.specs.declared.turned.Turned.{Turned as Answer}
use Rattle.cell_task.specs.declared.turned.Turned.TheVariants.{Ready, Yield, Done, Fault}

abbrev pub hart_as : LiveHart → Hart
hart_as h = record { pc = h.pc; registers = h.x }

abbrev pub answered : TaskState → Bool → Answer
answered IsReady yields = if yields then Yield else Ready
answered (IsDone code) yields = Done code
answered (IsFault cause pc) yields = Fault cause pc

-- a trap is noted
abbrev pub fault_after : Option TaskFault → TaskState → Option TaskFault
fault_after old IsReady = old
fault_after old (IsDone code) = old
fault_after old (IsFault cause pc) = Some (record { cause = cause; pc = pc })

-- the task was `old` and is `new`, and the output was `out` and is `out'`
pub record IsRan (after : Move) (answer : Answer) (old new : LiveTask) (out out' : List ℕ) : Type 0 where
  pub answer_is : answer ≡ answered after.state after.yields
  pub pc : new.hart.pc ≡ after.hart.pc
  pub registers : new.hart.x ≡ after.hart.registers
  pub fault : new.fault ≡ fault_after old.fault after.state
  pub origin : new.origin ≡ old.origin
  pub root : new.root ≡ old.root
  pub stack : new.stack ≡ old.stack
  pub put_out : out' ≡ out ++ after.out
