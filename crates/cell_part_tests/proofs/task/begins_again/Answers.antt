use Rattle.std.proofs.Common.{ap, is_some, subst, ℕ, Option}
use Rattle.cell_task.specs.Clearing.{CanClear}
use Rattle.cell_world.specs.World.{Task}
use Rattle.cell_part_tests.proofs.Stack.{has_stack, lives}
use Rattle.cell_part_tests.proofs.task.begins_again.Goals as goal

pub restart-requires-clause-live : goal.restart-requires-clause-live
restart-requires-clause-live g c = ap (λ (o : Option Task). is_some o) (lives _ _ _ _ _ _ c.new-tasks.ensures (c.in_ok-spawn.ensures {u = tt}).started)

pub restart-requires-clause-stack : goal.restart-requires-clause-stack
restart-requires-clause-stack g c t live =
    subst (λ (stack : ℕ). CanClear c.in_ok-memory.memory stack) (has_stack _ _ _ _ _ _ c.new-tasks.ensures (c.in_ok-spawn.ensures {u = tt}).started t live) (c.in_ok-memory.ensures {u = tt}).stack
