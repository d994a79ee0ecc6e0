use Rattle.std.proofs.Common.{◌≤◌, ◌+◌, length, vec_capacity, vec_len}
use Rattle.cell_schedule.specs.Rounds.{numbers_due}
use Rattle.cell_schedule.proofs.Rounds.{IsOnWay}
use Rattle.cell_schedule.proofs.round.run_each.Given as goal

-- the rest of the round is what is left, and there is room for its runs
abbrev pub invariant-loop-due : goal.invariant-loop-due
invariant-loop-due l = record {
  on_way : IsOnWay l.initial.machine l.turns (numbers_due l.fn.all.items) l.machine l.runs.items l.due-iterator.rest.items;
  room : vec_len l.runs + length l.due-iterator.rest.items ≤ vec_capacity l.runs;
}
