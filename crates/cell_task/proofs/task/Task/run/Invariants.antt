use Rattle.std.proofs.Common.{◌≤◌, ◌+◌, ◌*◌, vec_capacity, vec_len}
use Rattle.cell_task.proofs.Slicing.{IsUnderWay}
use Rattle.cell_task.proofs.task.Task.run.Given as goal

-- what is left of the slice is all of it, and there is room for what is left
abbrev pub invariant-loop-had : goal.invariant-loop-had
invariant-loop-had l = record {
  under_way : IsUnderWay l.fn.slice.turns l.fn.slice.until_yield l.initial.memory l.initial.self l.initial.out.items l.had l.memory l.self l.out.items;
  room : vec_len l.initial.out + 20 * l.fn.slice.turns ≤ vec_capacity l.out;
  short : vec_len l.out ≤ vec_len l.initial.out + 20 * l.had;
}
