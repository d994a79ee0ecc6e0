-- A task that begins again, where and as its spawn had it begin.
--     entry_again w t          the cell that provides the name of its spawn in w, and the address
--     no_entry_again w t       the refusal, where no task can begin there
--     restarted t entry        the task as it begins there
--     restarted_in w t         the same, where there is such a place in w
--     restart t w              w with the task as it begins, and its stack cleared
use Rattle.std.specs.Prelude.{ℕ, Option, Some, None, is_some, map, option_map, replicate, if◌then◌else◌}
use Rattle.cell_num.specs.Limits.{stack_size}
use Rattle.cell_world.specs.declared.refusal.Refusal.{Refusal}
use Rattle.cell_world.specs.declared.refusal.Refusal.TheVariants.{NoEntry}
use Rattle.cell_world.specs.World.{World, Region, Task}
use Rattle.cell_world.specs.Running.Memory.{written}
use Rattle.cell_world.specs.Running.Turn.{with_task}
use Rattle.cell_world.specs.Commands.SpawnCommand.{entry_named, new_task}

abbrev pub entry_again : World → Task → Option (ℕ × ℕ)
entry_again w t = entry_named w t.origin.ns t.origin.name

abbrev pub no_entry_again : World → Task → Option Refusal
no_entry_again w t = if is_some (entry_again w t) then None else Some (NoEntry t.origin.name)

-- its number, its stack and what it keeps of its spawn stay
abbrev pub restarted : Task → ℕ × ℕ → Task
restarted t entry = new_task t.number entry.0 entry.1 t.origin t.stack

abbrev pub restarted_in : World → Task → Option Task
restarted_in w t = option_map (restarted t) (entry_again w t)

abbrev pub cleared : ℕ → Region → Region
cleared start r = written r start (replicate stack_size 0)

abbrev pub restart : Task → World → World
restart t w = record w { regions = map (cleared t.stack) w.regions; tasks = with_task t w.tasks }

abbrev pub restart_by : Option Task → World → World
restart_by None w = w
restart_by (Some t) w = restart t w
