-- What one command makes of the machine, and what it answers. The step only dispatches.
--     next sources w command      the answer to the command in w, and the world after it. A refusal leaves w
use Rattle.std.specs.Prelude.{List, Result, Ok, Err}
use Rattle.cell_world.specs.declared.refusal.Refusal.{Refusal}
use Rattle.cell_world.specs.declared.command.Command.{Command}
use Rattle.cell_world.specs.declared.command.Command.TheVariants.{Ns, Load, Spawn, Step, Run, Kill, Swap, Unload, Purge, Tasks, Find, Deps, Users, Map, Dump, DumpAll, Recover, Rebuild, Clone}
use Rattle.cell_world.specs.declared.reply.Reply.{Reply}
use Rattle.cell_world.specs.World.{World}
use Rattle.cell_world.specs.Gather.{Source}
use Rattle.cell_world.specs.Outcome.{Outcome}
use Rattle.cell_world.specs.Answer.{Done}
use Rattle.cell_world.specs.Commands.NsCommand.{next_ns}
use Rattle.cell_world.specs.Commands.Asked.{next_load, next_swap, next_recover, next_rebuild, next_clone}
use Rattle.cell_world.specs.Commands.FindCommand.{next_find}
use Rattle.cell_world.specs.Commands.MapCommand.{next_map}
use Rattle.cell_world.specs.Commands.DumpCommand.{next_dump}
use Rattle.cell_world.specs.Commands.DumpAllCommand.{next_dump_all}
use Rattle.cell_world.specs.Commands.SpawnCommand.{next_spawn}
use Rattle.cell_world.specs.Commands.LinkCommands.{next_deps, next_users}
use Rattle.cell_world.specs.Commands.UnloadCommand.{next_unload, next_purge}
use Rattle.cell_world.specs.Commands.TaskCommands.{next_step, next_run, next_kill, next_tasks}

-- the command's reply and the world after it, or its first refusal
abbrev pub outcome_of : List Source → World → Command → Outcome Done
outcome_of sources w (Ns name parent) = next_ns w name parent
outcome_of sources w (Load ns stem) = next_load sources w ns stem
outcome_of sources w (Find ns symbol) = next_find w ns symbol
outcome_of sources w (Spawn ns symbol arg) = next_spawn w ns symbol arg
outcome_of sources w (Step task turns) = next_step w task turns
outcome_of sources w (Run turns) = next_run w turns
outcome_of sources w (Kill task) = next_kill w task
outcome_of sources w (Swap items reexport strict routines budget) = next_swap sources w items reexport strict routines budget
outcome_of sources w (Unload cells) = next_unload w cells
outcome_of sources w Purge = next_purge w
outcome_of sources w Tasks = next_tasks w
outcome_of sources w (Deps cell) = next_deps w cell
outcome_of sources w (Users cell) = next_users w cell
outcome_of sources w Map = next_map w
outcome_of sources w (Dump cell section) = next_dump w cell section
outcome_of sources w DumpAll = next_dump_all w
outcome_of sources w (Recover task) = next_recover sources w task
outcome_of sources w (Rebuild task) = next_rebuild sources w task
outcome_of sources w (Clone ns name) = next_clone sources w ns name

pub record Answered : Type 0 where
  pub answer : Result Reply Refusal
  pub world : World

-- a refusal leaves the world
abbrev pub answered_by : World → Outcome Done → Answered
answered_by w (Ok done) = record { answer = Ok done.reply; world = done.world }
answered_by w (Err refusal) = record { answer = Err refusal; world = w }

abbrev pub next : List Source → World → Command → Answered
next sources w command = answered_by w (outcome_of sources w command)
