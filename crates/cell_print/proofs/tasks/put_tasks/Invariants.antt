use Rattle.std.proofs.Common.{◌≡◌, ◌++◌, drop}
use Rattle.std.specs.List.{flat_map}
use Rattle.cell_print.specs.Lines.{task_line, Extends}
use Rattle.cell_print.proofs.tasks.put_tasks.Given as goal

-- the lines of the tasks so far, and of those that are left, are all of them
abbrev pub invariant-loop-task : goal.invariant-loop-task
invariant-loop-task l = record {
  all : l.into.items ++ flat_map task_line (drop l.task-index l.tasks) ≡ l.fn.into.items ++ flat_map task_line l.tasks;
  extends : Extends l.fn.into.items l.into.items;
}
