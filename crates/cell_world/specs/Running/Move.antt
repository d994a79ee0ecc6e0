-- One turn of a hart, be it a task's or a transfer routine's: an instruction, or the call that it makes.
--     Row                     what a call does
--     Column                  what each call does; tasks and routines have one each
--     move column m h         how the hart is after the turn, the regions, and what it puts out
use Rattle.std.specs.Prelude.{ℕ, ◌+◌, ◌==◌, Bool, true, false, List, [], slice_index, slice_set, if◌then◌else◌}
use Rattle.cell_num.specs.declared.ids.Cause.TheVariants.{Call as BadCall}
use Rattle.cell_num.specs.Bits.{wrap}
use Rattle.cell_world.specs.declared.reply.TaskState.{TaskState}
use Rattle.cell_world.specs.declared.reply.TaskState.TheVariants.{Ready, Done, Fault as Faulted}
use Rattle.cell_world.specs.World.{Region}
use Rattle.cell_world.specs.Running.Memory.{put_by}
use Rattle.cell_world.specs.Running.Execute.{Seen, Effect, Goes, Calls, Traps, execute}

-- the pc, and x0 to x31
pub record Hart : Type 0 where
  pub pc : ℕ
  pub registers : List ℕ

-- a call ends the hart with the code x10, does nothing, yields, puts bytes out, answers a number in x10, or traps
pub data Row : Type 0 where
  Ends : Row
  Passes : Row
  Yields : Row
  PutsOut : (bytes : List ℕ) → Row
  Answers : (value : ℕ) → Row
  Refuses : Row

-- the row of a call, by the memory and the registers
abbrev pub Column : Type 0
Column = Seen → List ℕ → Row

-- the hart after a turn, the regions, how it stands, whether it yields, and what it puts out
pub record Move : Type 0 where
  pub hart : Hart
  pub regions : List Region
  pub state : TaskState
  pub yields : Bool
  pub out : List ℕ

-- at the pc 0 a hart ends with the code x10
abbrev pub state_at : Hart → TaskState
state_at h = if h.pc == 0 then Done (slice_index h.registers 10) else Ready

abbrev pub gone_on : List Region → Hart → Bool → List ℕ → Move
gone_on regions h yields out = record { hart = h; regions = regions; state = state_at h; yields = yields; out = out }

-- the hart stands still
abbrev pub stopped : List Region → Hart → TaskState → Move
stopped regions h state = record { hart = h; regions = regions; state = state; yields = false; out = [] }

-- on to the instruction after a call
abbrev pub passed : List Region → Hart → Bool → List ℕ → Move
passed regions h yields out = gone_on regions (record h { pc = wrap (h.pc + 4) }) yields out

abbrev pub called : List Region → Hart → Row → Move
called regions h Ends = stopped regions h (Done (slice_index h.registers 10))
called regions h Passes = passed regions h false []
called regions h Yields = passed regions h true []
called regions h (PutsOut bytes) = passed regions h false bytes
called regions h (Answers value) = passed regions (record h { registers = slice_set h.registers 10 value }) false []
called regions h Refuses = stopped regions h (Faulted BadCall h.pc)

abbrev pub moved_by : Column → Seen → Hart → Effect → Move
moved_by column m h (Goes registers pc store) = gone_on (put_by m.regions store) (record { pc = pc; registers = registers }) false []
moved_by column m h Calls = called m.regions h (column m h.registers)
moved_by column m h (Traps cause) = stopped m.regions h (Faulted cause h.pc)

abbrev pub move : Column → Seen → Hart → Move
move column m h = moved_by column m h (execute m h.registers h.pc)
