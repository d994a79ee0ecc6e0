-- A task that begins again once all is linked.
--     BeginsAgain v c plan u     u is a live task of v, as it begins where its spawn's name is by then
use Rattle.std.specs.Prelude.{ℕ, ◌≡◌, Some}
use Rattle.cell_world.specs.World.{World, Task}
use Rattle.cell_world.specs.Running.Restart.{entry_again, restarted}
use Rattle.cell_world.specs.Change.{Change, Plan, restarting}

pub record BeginsAgain (v : World) (c : Change) (plan : Plan) (u : Task) : Type 0 where
  pub task : Task
  pub entry : ℕ × ℕ
  pub live : restarting v c ≡ Some task
  pub there : entry_again plan.linked task ≡ Some entry
  pub is : restarted task entry ≡ u
