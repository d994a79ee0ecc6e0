-- What turns of a task make of the machine.
--     HasTurned old t answer ..     one turn
--     HasRun old ran ..             many
--     space_after state space ..    the pages that are taken after turns
use Rattle.std.specs.Prelude.{ℕ, ◌≡◌, false, List, ◌++◌}
use Rattle.cell_world.specs.declared.reply.TaskRun.{TaskRun}
use Rattle.cell_world.specs.declared.reply.TaskState.{TaskState}
use Rattle.cell_world.specs.declared.reply.TaskState.TheVariants.{Done}
use Rattle.cell_world.specs.Running.Turn.{Ran, turn}
use Rattle.cell_world.specs.World.{Task}
use Rattle.cell_task.specs.declared.turned.Turned.{Turned as Answer}
use Rattle.cell_task.specs.Turns.{answer_of}
use Rattle.cell_place.specs.Space.{SpaceState, with_run}
use Rattle.cell_machine.specs.declared.machine.Machine.{Machine}
use Rattle.cell_machine.specs.Machine.{IsSound, world_of}
use Rattle.cell_schedule.specs.Ends.{stack_run}

-- a task that ended gives the pages of its stack back
abbrev pub space_after : TaskState → SpaceState → ℕ → SpaceState
space_after (Done code) space stack = with_run space (stack_run space.base stack) false
space_after _ space stack = space

-- no turn patches a field or maps a region
pub record IsCounted (old new : Machine) : Type 0 where
  pub patches : new.memory.patches ≡ old.memory.patches
  pub maps : new.memory.maps ≡ old.memory.maps

-- machine `old` and output `out` have become `new` and out'
pub record HasTurned (old : Machine) (t : Task) (out : List ℕ) (answer : Answer) (new : Machine) (out' : List ℕ) : Type 0 where
  pub sound : IsSound new
  pub counted : IsCounted old new
  pub answered : answer ≡ answer_of (turn (world_of old) t)
  pub world : world_of new ≡ (turn (world_of old) t).world
  pub put_out : out' ≡ out ++ (turn (world_of old) t).out

-- machine `old` has become `new` by the turns of one task
pub record HasRun (old : Machine) (ran : Ran) (run : TaskRun) (new : Machine) : Type 0 where
  pub sound : IsSound new
  pub counted : IsCounted old new
  pub world : world_of new ≡ ran.world
  pub is : run ≡ ran.run
