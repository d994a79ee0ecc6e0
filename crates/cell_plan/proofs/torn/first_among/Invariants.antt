use Rattle.std.proofs.Common.{◌≡◌, drop}
use Rattle.cell_plan.specs.Spans.{torn_among}
use Rattle.cell_plan.proofs.torn.first_among.Given as goal

-- none of the tasks so far
abbrev pub invariant-loop-task : goal.invariant-loop-task
invariant-loop-task l = torn_among l.spans (drop l.task-index l.tasks) ≡ torn_among l.spans l.tasks
