use Rattle.std.proofs.Common.{◌≡◌, map, take, drop, length}
use Rattle.cell_world.specs.Commands.TaskCommands.{task_line as line_of}
use Rattle.cell_schedule.proofs.overview.task_lines.Given as goal

-- the lines so far, and the numbers that are left
abbrev pub invariant-loop-number : goal.invariant-loop-number
invariant-loop-number l = record {
  so_far : l.lines.items ≡ map line_of (take (length l.yielded) l.tasks.tasks);
  left : l.number-iterator ≡ drop (length l.yielded) (map (λ t. t.number) l.tasks.tasks);
}
