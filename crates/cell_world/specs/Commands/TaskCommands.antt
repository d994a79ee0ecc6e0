-- `step T N`, `run N`, `kill T` and `tasks`
use Rattle.std.specs.Prelude.{ℕ, List, [], ◌∷◌, ◌++◌, Some, None, Ok, Err, map, filter, fold, option_map}
use Rattle.cell_world.specs.declared.refusal.Refusal.TheVariants.{NotRunnable}
use Rattle.cell_world.specs.declared.reply.Reply.TheVariants.{Step as StepDone, Run as RunDone, Kill as KillDone, Tasks as TasksDone}
use Rattle.cell_world.specs.declared.reply.TaskRun.{TaskRun}
use Rattle.cell_world.specs.declared.reply.TaskLine.{TaskLine}
use Rattle.cell_world.specs.World.{World, Task, is_ready}
use Rattle.cell_world.specs.Running.Turn.{turns_of, slice_of, without_task}
use Rattle.cell_world.specs.Outcome.{Outcome, ◌>>=◌, ◌>>◌}
use Rattle.cell_world.specs.Answer.{Done, done, live_task}

abbrev pub can_run : Task → Outcome (Unit {0})
can_run t = elim t.fault [ None ↦ Ok tt | Some fault ↦ Err (NotRunnable t.number fault.cause fault.pc) ]

abbrev pub next_step : World → ℕ → ℕ → Outcome Done
next_step w number n = do
  t ← live_task w number
  can_run t
  let after = turns_of n w number in done (StepDone after.run) after.world

-- the runs of tasks so far, and the world after them
pub record Round : Type 0 where
  pub world : World
  pub runs : List TaskRun

abbrev pub run_task : ℕ → Round → ℕ → Round
run_task n round number =
    let after = slice_of n round.world number in
    record { world = after.world; runs = round.runs ++ after.run ∷ [] }

-- once over the tasks that are Ready now
abbrev pub next_run : World → ℕ → Outcome Done
next_run w n =
    let round = fold (run_task n) (record { world = w; runs = [] }) (map (λ t. t.number) (filter is_ready w.tasks)) in
    done (RunDone round.runs) round.world

abbrev pub next_kill : World → ℕ → Outcome Done
next_kill w number = do
  t ← live_task w number
  done (KillDone number) (without_task w t)

abbrev pub task_line : Task → TaskLine
task_line t =
    record { task = t.number; root = record { 0 = t.root }; pc = t.pc; fault = option_map (λ fault. fault.cause) t.fault }

abbrev pub next_tasks : World → Outcome Done
next_tasks w = done (TasksDone (map task_line w.tasks)) w
