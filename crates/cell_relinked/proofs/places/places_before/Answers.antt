use Rattle.std.proofs.Common.{rules, of_calls, nat_lt}
use Rattle.std.proofs.lemmas.Fn.{always_returns_same}
use Rattle.cell_placed.specs.Keys.{section_in}
use Rattle.cell_world.proofs.InOrder.{partitioned}
use Rattle.cell_relinked.proofs.places.places_before.Goals as goal

pub returns : goal.returns
returns c =
    c.partition_point.ensures.partitioned (λ p. nat_lt p.section c.args.section) (always_returns_same _ _ _ (λ a r f k. search (rules, of_calls)))
    (partitioned section_in c.args.section c.args.places.now c.requires)
