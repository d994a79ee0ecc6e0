-- Turns of one task after another.
--     can_turn s number         the number is that of a ready task
--     HaveRoom turns due        each has room for what it may put out
--     AreDue s turns due        they are ready tasks, by rising numbers, and have room
--     HasGone old turns ..      each has had its turns
use Rattle.std.specs.Prelude.{ℕ, ◌≡◌, ◌≤◌, ◌*◌, Bool, false, List, [], IsTrue, map, fold, nat_lt, option_map, unwrap_or, vec_capacity}
use Rattle.cell_num.specs.Lists.{each_pair, In}
use Rattle.cell_world.specs.declared.reply.TaskRun.{TaskRun}
use Rattle.cell_world.specs.World.{World, is_ready}
use Rattle.cell_world.specs.Commands.TaskCommands.{Round, run_task}
use Rattle.cell_task.specs.State.{IsReady, TasksState, live_in}
use Rattle.cell_machine.specs.declared.machine.Machine.{Machine}
use Rattle.cell_machine.specs.Machine.{IsSound, world_of}
use Rattle.cell_schedule.specs.declared.round.Due.{Due}
use Rattle.cell_schedule.specs.Turns.{IsCounted}

-- a live task of that number is ready
abbrev pub can_turn : TasksState → ℕ → Bool
can_turn s number = unwrap_or (option_map is_ready (live_in s number)) false

-- 20 bytes a turn
pub record HasRoom (turns : ℕ) (d : Due) : Type 0 where
  pub empty : d.out.items ≡ []
  pub room : 20 * turns ≤ vec_capacity d.out

-- each of them has
abbrev pub HaveRoom : ℕ → List Due → Type 0
HaveRoom turns due = (d : Due) → In d due → HasRoom turns d

-- their numbers
abbrev pub numbers_due : List Due → List ℕ
numbers_due due = map (λ d. d.task) due

-- ready tasks, the lowest number first
pub record AreDue (s : TasksState) (turns : ℕ) (due : List Due) : Type 0 where
  pub ready : (number : ℕ) → In number (numbers_due due) → IsReady s number
  pub rising : IsTrue (each_pair nat_lt (numbers_due due))
  pub room : HaveRoom turns due

-- the tasks of these numbers, one after another
abbrev pub gone_round : World → ℕ → List ℕ → Round
gone_round w turns numbers = fold (run_task turns) (record { world = w; runs = [] }) numbers

-- machine `old` has become `new` by their turns
pub record HasGone (old : Machine) (turns : ℕ) (numbers : List ℕ) (runs : List TaskRun) (new : Machine) : Type 0 where
  pub sound : IsSound new
  pub counted : IsCounted old new
  pub world : world_of new ≡ (gone_round (world_of old) turns numbers).world
  pub are : runs ≡ (gone_round (world_of old) turns numbers).runs
