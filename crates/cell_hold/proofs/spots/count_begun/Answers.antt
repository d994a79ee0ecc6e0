use Rattle.std.proofs.Common.{rules, of_calls}
use Rattle.std.specs.Prelude.{nat_le}
use Rattle.std.proofs.lemmas.Fn.{always_returns_same}
use Rattle.std.proofs.lemmas.List.Sorted.{IsPartitionedBy-leb}
use Rattle.cell_hold.specs.declared.spots.Spot.{Spot}
use Rattle.cell_hold.proofs.spots.count_begun.Goals as goal

pub returns-clause-begun : goal.returns-clause-begun
returns-clause-begun c =
    c.partition_point.ensures.partitioned (λ r. nat_le r.place.start c.args.word) (always_returns_same _ _ _ (λ a r f k. search (rules, of_calls)))
    (IsPartitionedBy-leb (λ (r : Spot). r.place.start) c.args.spots.now c.args.word c.requires)
