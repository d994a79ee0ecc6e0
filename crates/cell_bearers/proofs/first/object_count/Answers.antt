use Rattle.std.proofs.Common.{rules, of_calls}
use Rattle.std.proofs.lemmas.Fn.{always_returns_same}
use Rattle.cell_bearers.specs.Ordered.{is_object}
use Rattle.cell_bearers.proofs.first.object_count.Goals as goal

pub returns-clause-count : goal.returns-clause-count
returns-clause-count c = c.partition_point.ensures.partitioned is_object (always_returns_same _ _ _ (λ a r f k. search (rules, of_calls)))
