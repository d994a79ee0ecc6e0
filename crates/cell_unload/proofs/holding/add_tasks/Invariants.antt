use Rattle.std.proofs.Common.{◌≡◌, ◌++◌, map, take, drop, length}
use Rattle.cell_unload.specs.Begun.{root_of_task}
use Rattle.cell_unload.proofs.holding.add_tasks.Given as goal

-- the tasks so far, and the numbers that are left
abbrev pub invariant-loop-number : goal.invariant-loop-number
invariant-loop-number l = record {
  so_far : l.into.items ≡ l.fn.into.items ++ map root_of_task (take (length l.yielded) l.tasks.tasks);
  left : l.number-iterator ≡ drop (length l.yielded) (map (λ t. t.number) l.tasks.tasks);
}
