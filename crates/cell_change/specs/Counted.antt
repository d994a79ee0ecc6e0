-- What a change counts.
--     most_by plan stacks         the fields of a plan, and the regions of its new cells and its stack: none where there is no plan
use Rattle.std.specs.Prelude.{◌+◌, ℕ, Ok, Err, flat_map, length}
use Rattle.cell_world.specs.Change.{Plan as PlanSaid}
use Rattle.cell_world.specs.Linked.Relink.{field_count}
use Rattle.cell_world.specs.Outcome.{Outcome}
use Rattle.cell_machine.specs.Does.{Most, cell_shapes}

abbrev pub most_by : Outcome PlanSaid → ℕ → Most
most_by (Ok plan) stacks =
    record { patches = field_count plan.fresh + length plan.changed; maps = length (flat_map cell_shapes plan.fresh) + stacks }
most_by (Err refusal) stacks = record { patches = 0; maps = 0 }
