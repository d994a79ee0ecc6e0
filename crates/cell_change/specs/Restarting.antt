-- A task that begins again.
--     AreAhead w m g                w has the present cells, and the gathered ones behind them, as they would be called
--     KnowOrigins m g               what a live task keeps of its spawn can be looked up there
--     CanBegin m g origin           the same of one task
--     has_begin cells provider      a task may begin at that symbol of one of the cells
--     Begins w tasks restarts result   the live task of that number may begin again in w, or the refusal
--     CanRestart m task             the live task of that number may begin again in m
--     with_restarted m t            m with the task t as it begins, on a stack of zeros
--     HasBegunAgain c n             n is m with that task
--     Renews t old new              holding begins where the task stands now, if it is read
--     HasRestarted c old n new      both
use Rattle.std.specs.Prelude.{◌≡◌, ◌==◌, ◌<◌, ◌++◌, ℕ, nat_lt, Bool, IsTrue, List, Option, None, Some, Result, Ok, Err, find, is_some, length, map, option_and_then, option_map}
use Rattle.cell_num.specs.Lists.{each_pair, In}
use Rattle.cell_world.specs.declared.fail.Fail.{Fail}
use Rattle.cell_world.specs.declared.fail.Fail.TheVariants.{Refused, OutOfMemory}
use Rattle.cell_world.specs.declared.state.NewCell.{NewCell}
use Rattle.cell_world.specs.declared.state.Origin.{Origin}
use Rattle.cell_world.specs.Coherent.{IsLoadable}
use Rattle.cell_world.specs.Commands.SpawnCommand.{entry_offset}
use Rattle.cell_world.specs.Names.{Provider}
use Rattle.cell_world.specs.Running.Restart.{entry_again, no_entry_again, restarted}
use Rattle.cell_world.specs.World.{Task, World}
use Rattle.cell_gather.specs.declared.gathering.Gathered.{Gathered}
use Rattle.cell_hold.specs.declared.roots.TaskView.{TaskView}
use Rattle.cell_machine.specs.declared.machine.Machine.{Machine}
use Rattle.cell_machine.specs.Machine.{IsSound, world_of}
use Rattle.cell_plan.specs.Coverage.{IsAhead}
use Rattle.cell_space.specs.Joined.{placed_of}
use Rattle.cell_task.specs.Clearing.{with_cleared}
use Rattle.cell_task.specs.State.{TasksState, live_in, with_changed}
use Rattle.cell_unload.specs.Begun.{renewed_root}
use Rattle.cell_unload.specs.declared.outlook.Outlook.{Outlook}

pub record AreAhead (w : World) (m : Machine) (g : Gathered) : Type 0 where
  pub named : IsAhead w g.ahead
  pub placed : map placed_of w.cells ≡ m.cells.items ++ g.cells.items

pub record CanBegin (m : Machine) (g : Gathered) (o : Origin) : Type 0 where
  pub known : o.ns < length g.ahead.namespaces
  pub rise : IsTrue (each_pair (λ a b. nat_lt a.id.0 b.id.0) (m.cells.items ++ g.cells.items))
  pub loadable : (c : NewCell) → In c (m.cells.items ++ g.cells.items) → IsLoadable c.object

abbrev pub KnowOrigins : Machine → Gathered → Type 0
KnowOrigins m g = (t : Task) → In t m.tasks.tasks → CanBegin m g t.origin

abbrev pub has_begin : List NewCell → Option Provider → Bool
has_begin cells o = is_some (option_and_then (λ p. option_and_then (λ c. entry_offset c.object p.symbol) (find (λ c. c.id.0 == p.cell) cells)) o)

abbrev pub live_named : TasksState → Option ℕ → Option Task
live_named tasks restarts = option_and_then (live_in tasks) restarts

abbrev pub Begins : World → TasksState → Option ℕ → Result (Option ℕ) Fail → Type 0
Begins w tasks restarts (Ok again) =
    (option_and_then (no_entry_again w) (live_named tasks restarts) ≡ None) × (again ≡ option_map (λ t. t.number) (live_named tasks restarts))
Begins w tasks restarts (Err (Refused refusal)) = option_and_then (no_entry_again w) (live_named tasks restarts) ≡ Some refusal
Begins w tasks restarts (Err OutOfMemory) = Unit {0}

pub record CanRestart (m : Machine) (task : ℕ) : Type 0 where
  pub sound : IsSound m
  pub t : Task
  pub live : live_in m.tasks task ≡ Some t
  pub entry : ℕ × ℕ
  pub there : entry_again (world_of m) t ≡ Some entry

abbrev pub with_restarted : Machine → Task → Machine
with_restarted m t = record m { tasks = with_changed m.tasks t; memory = with_cleared m.memory t.stack }

abbrev pub HasBegunAgain : {m : Machine} {task : ℕ} → CanRestart m task → Machine → Type 0
HasBegunAgain {m} {task} c n = n ≡ with_restarted m (restarted c.t c.entry)

abbrev pub view_as : Task → TaskView
view_as t = record { task = t.number; root = record { 0 = t.root }; pc = t.pc; x = t.registers; stack = t.stack }

abbrev pub Renews : Task → Option Outlook → Option Outlook → Type 0
Renews t None None = Unit {0}
Renews t None (Some new) = ⊥
Renews t (Some old) None = ⊥
Renews t (Some old) (Some new) = (new.places ≡ old.places) × (new.roots.items ≡ map (renewed_root (view_as t)) old.roots.items)

pub record HasRestarted {m : Machine} {task : ℕ} (c : CanRestart m task) (old : Option Outlook) (n : Machine) (new : Option Outlook) : Type 0 where
  pub begun : HasBegunAgain c n
  pub renews : Renews (restarted c.t c.entry) old new
