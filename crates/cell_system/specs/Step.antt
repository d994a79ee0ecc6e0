-- How a system's answer to a command stands to the plain machine's.
--     said_to s command       what the plain machine says to the command
--     counts_of sources w command     what the command counts
--     IsStep old command result new   the files stay; the machine does what is said
use Rattle.std.specs.Prelude.{◌≡◌, List, Result, map}
use Rattle.cell_world.specs.declared.command.Command.{Command}
use Rattle.cell_world.specs.declared.command.Command.TheVariants.{Rebuild, Recover, Spawn, Swap}
use Rattle.cell_world.specs.declared.fail.Fail.{Fail}
use Rattle.cell_world.specs.declared.file.File.{File}
use Rattle.cell_world.specs.declared.reply.Reply.{Reply}
use Rattle.cell_world.specs.Answer.{Done}
use Rattle.cell_world.specs.Commands.Recovery.{rebuild_of, recovery_of}
use Rattle.cell_world.specs.Gather.{Source, source_of}
use Rattle.cell_world.specs.Next.{outcome_of}
use Rattle.cell_world.specs.Outcome.{Outcome}
use Rattle.cell_world.specs.World.{World}
use Rattle.cell_machine.specs.declared.machine.Machine.{Machine}
use Rattle.cell_machine.specs.Does.{Answers, Counts, no_stack, one_stack, state_of as machine_state}
use Rattle.cell_commands.specs.Counted.{renewal_counts, swap_counts}
use Rattle.cell_system.specs.State.{State}

abbrev pub state_of : List File → Machine → State
state_of files m = record { files = files; machine = machine_state m }

abbrev pub said_to : State → Command → Outcome Done
said_to s command = outcome_of (map source_of s.files) s.machine.world command

abbrev pub counts_of : List Source → World → Command → Counts
counts_of sources w (Spawn ns symbol arg) = one_stack
counts_of sources w (Swap items reexport strict routines budget) = swap_counts sources w items reexport strict routines budget
counts_of sources w (Recover task) = renewal_counts sources w task recovery_of
counts_of sources w (Rebuild task) = renewal_counts sources w task rebuild_of
counts_of sources w _ = no_stack

pub record IsStep (old : State) (command : Command) (result : Result Reply Fail) (new : State) : Type 0 where
  pub files : new.files ≡ old.files
  pub answer : Answers (said_to old command) (counts_of (map source_of old.files) old.machine.world command) old.machine result new.machine
