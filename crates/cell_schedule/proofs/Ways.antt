-- What a turn makes of the regions: a task that ends takes its stack with it.
use Rattle.std.proofs.Common.{◌≡◌, refl, List}
use Rattle.cell_world.specs.declared.reply.TaskState.{TaskState}
use Rattle.cell_world.specs.declared.reply.TaskState.TheVariants.{Ready, Done, Fault as Faulted}
use Rattle.cell_world.specs.World.{World, Region, Task}
use Rattle.cell_world.specs.Running.Move.{Move}
use Rattle.cell_world.specs.Running.Turn.{standing, turned, without_task}

-- the world after the turn has these regions, or is without the task
abbrev pub Leaves : World → Task → List Region → TaskState → World → Type 0
Leaves w t regions (Done code) after = after ≡ without_task (record w { regions = regions }) t
Leaves w t regions Ready after = after.regions ≡ regions
Leaves w t regions (Faulted cause pc) after = after.regions ≡ regions

pub leaves : (w : World) (t : Task) (after : Move) → Leaves w t after.regions after.state (turned w t after).world
leaves w t after = go after.state
  where
    go : (state : TaskState) → Leaves w t after.regions state (standing (record w { regions = after.regions }) (record t { pc = after.hart.pc; registers = after.hart.registers }) state)
    go Ready = refl
    go (Done code) = refl
    go (Faulted cause pc) = refl
