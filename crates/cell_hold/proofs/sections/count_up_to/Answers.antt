use Rattle.std.proofs.Common.{rules, of_calls}
use Rattle.std.specs.Prelude.{nat_le}
use Rattle.std.proofs.lemmas.Fn.{always_returns_same}
use Rattle.std.proofs.lemmas.List.Sorted.{IsPartitionedBy-leb}
use Rattle.cell_world.specs.declared.state.Placed.{Placed}
use Rattle.cell_hold.proofs.sections.count_up_to.Goals as goal

pub returns-clause-up_to : goal.returns-clause-up_to
returns-clause-up_to c =
    c.partition_point.ensures.partitioned (λ s. nat_le s.key.cell.0 c.args.cell.0) (always_returns_same _ _ _ (λ a r f k. search (rules, of_calls)))
    (IsPartitionedBy-leb (λ (s : Placed). s.key.cell.0) c.args.places.now c.args.cell.0 c.requires)
