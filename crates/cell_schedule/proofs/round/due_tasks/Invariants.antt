use Rattle.std.proofs.Common.{◌≡◌, ◌++◌, map}
use Rattle.std.specs.Prelude.{filter}
use Rattle.cell_schedule.specs.Rounds.{HaveRoom, can_turn, numbers_due}
use Rattle.cell_schedule.proofs.round.due_tasks.Given as goal

-- the ready ones so far, with those that are left
abbrev pub invariant-loop-number : goal.invariant-loop-number
invariant-loop-number l = record {
  ready : numbers_due l.due.items ++ filter (can_turn l.tasks) l.number-iterator ≡ filter (can_turn l.tasks) (map (λ t. t.number) l.tasks.tasks);
  room : HaveRoom l.turns l.due.items;
}
