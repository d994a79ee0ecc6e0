-- Where a task may begin, and what its start makes of the machine.
--     entry_as e                    the cell's number and the address
--     entry_at w target             the entry that the target is
--     may_start s                   there is room for one more task
--     started w entry origin        the answer, and the machine with the task, on a stack in the lowest free run
use Rattle.std.specs.Prelude.{ℕ, suc, ◌+◌, ◌%◌, ◌==◌, nat_lt, nat_le, Bool, ◌&&◌, [], ◌∷◌, ◌++◌, Option, None, length, option_and_then}
use Rattle.cell_num.specs.Lists.{where_true}
use Rattle.cell_object.specs.declared.object.Section.{Section as ObjectSection}
use Rattle.cell_object.specs.Parts.{section_of}
use Rattle.cell_world.specs.declared.refusal.Many.TheVariants.{Tasks as ManyTasks, TaskNumbers}
use Rattle.cell_world.specs.declared.refusal.Refusal.TheVariants.{TooMany}
use Rattle.cell_world.specs.declared.reply.Reply.TheVariants.{Spawn as SpawnDone}
use Rattle.cell_world.specs.declared.state.NewCell.{NewCell}
use Rattle.cell_world.specs.declared.state.Origin.{Origin}
use Rattle.cell_world.specs.declared.state.Target.{Target}
use Rattle.cell_world.specs.declared.state.Target.TheVariants.{Section, Number}
use Rattle.cell_world.specs.Answer.{Done, done}
use Rattle.cell_world.specs.Outcome.{Outcome, ◌>>=◌, ◌>>◌, need}
use Rattle.cell_world.specs.Placed.Place.{start_of_run}
use Rattle.cell_world.specs.Commands.SpawnCommand.{new_task, with_stack}
use Rattle.cell_world.specs.World.{World, cell_of}
use Rattle.cell_task.specs.State.{TasksState}
use Rattle.cell_schedule.specs.declared.entry.Entry.{Entry}

abbrev pub entry_as : Entry → ℕ × ℕ
entry_as e = (e.cell.0, e.addr)

-- four bytes of an executable section, from a multiple of 4 on
abbrev pub is_entry_at : ObjectSection → ℕ → ℕ → Bool
is_entry_at s offset addr = s.exec && addr % 4 == 0 && nat_le (offset + 4) s.size

abbrev pub entry_in : NewCell → ℕ → ℕ → ℕ → Option (ℕ × ℕ)
entry_in c section offset addr =
    option_and_then (λ s. where_true (is_entry_at s offset addr) (c.id.0, addr)) (section_of c.object section)

-- a number is no entry
abbrev pub entry_at : World → Target → Option (ℕ × ℕ)
entry_at w (Section key offset addr) =
    option_and_then (λ c. entry_in c.placed key.section offset addr) (cell_of w key.cell.0)
entry_at w (Number value) = None

-- 64 tasks are the most, and 65535 is the last number
abbrev pub may_start : TasksState → Outcome (Unit {0})
may_start s =
    need (nat_lt (length s.tasks) 64) (TooMany ManyTasks 64) >> need (nat_le s.next 65535) (TooMany TaskNumbers 65535)

abbrev pub with_started : World → ℕ × ℕ → Origin → ℕ → World
with_started w entry origin stack =
    record (with_stack w stack) {
      tasks = w.tasks ++ new_task w.next_task entry.0 entry.1 origin stack ∷ [];
      next_task = suc w.next_task;
    }

abbrev pub started : World → ℕ × ℕ → Origin → Outcome Done
started w entry origin =
    start_of_run w 4 >>= (λ stack. done (SpawnDone w.next_task entry.1) (with_started w entry origin stack))
