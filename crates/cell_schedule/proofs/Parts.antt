-- A turn sees tasks and regions alone, and changes no other part of the machine.
use Rattle.std.proofs.Common.{◌≡◌, refl}
use Rattle.cell_world.specs.declared.reply.TaskState.{TaskState}
use Rattle.cell_world.specs.declared.reply.TaskState.TheVariants.{Ready, Done, Fault as Faulted}
use Rattle.cell_world.specs.World.{World, Task}
use Rattle.cell_world.specs.Running.Move.{Move}
use Rattle.cell_world.specs.Running.Turn.{Turned, standing, turned}
use Rattle.cell_task.specs.Turns.{with_parts}

-- the tasks and regions of a turn, in the machine
abbrev pub within : World → Turned → Turned
within w x = record x { world = record w { tasks = x.world.tasks; regions = x.world.regions } }

abbrev pub bare : World → World
bare w = with_parts (record { tasks = w.tasks; next = w.next_task }) w.regions

-- the turn in a machine, where the task stands so
abbrev to : World → Task → Move → TaskState → Turned
to w t after state =
    record {
      world = standing (record w { regions = after.regions }) (record t { pc = after.hart.pc; registers = after.hart.registers }) state;
      state = state;
      yields = after.yields;
      out = after.out;
    }

pub parts : (w : World) (t : Task) (after : Move) → turned w t after ≡ within w (turned (bare w) t after)
parts w t after = go after.state
  where
    go : (state : TaskState) → to w t after state ≡ within w (to (bare w) t after state)
    go Ready = refl
    go (Done code) = refl
    go (Faulted cause pc) = refl
