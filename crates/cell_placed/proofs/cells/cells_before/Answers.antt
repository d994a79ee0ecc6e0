use Rattle.std.proofs.Common.{rules, of_calls, nat_lt}
use Rattle.std.proofs.lemmas.Fn.{always_returns_same}
use Rattle.cell_placed.specs.Keys.{number_in}
use Rattle.cell_world.proofs.InOrder.{partitioned}
use Rattle.cell_placed.proofs.cells.cells_before.Goals as goal

pub returns : goal.returns
returns c =
    c.partition_point.ensures.partitioned (λ d. nat_lt d.id.0 c.args.number) (always_returns_same _ _ _ (λ a r f k. search (rules, of_calls)))
    (partitioned number_in c.args.number c.args.cells.now c.requires)
