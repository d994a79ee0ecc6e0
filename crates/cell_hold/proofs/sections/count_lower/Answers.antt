use Rattle.std.proofs.Common.{rules, of_calls}
use Rattle.std.specs.Prelude.{nat_lt}
use Rattle.std.proofs.lemmas.Fn.{always_returns_same}
use Rattle.std.proofs.lemmas.List.Sorted.{IsPartitionedBy-ltb}
use Rattle.cell_world.specs.declared.state.Placed.{Placed}
use Rattle.cell_hold.proofs.sections.count_lower.Goals as goal

pub returns-clause-lower : goal.returns-clause-lower
returns-clause-lower c =
    c.partition_point.ensures.partitioned (λ s. nat_lt s.key.cell.0 c.args.cell.0) (always_returns_same _ _ _ (λ a r f k. search (rules, of_calls)))
    (IsPartitionedBy-ltb (λ (s : Placed). s.key.cell.0) c.args.places.now c.args.cell.0 c.requires)
