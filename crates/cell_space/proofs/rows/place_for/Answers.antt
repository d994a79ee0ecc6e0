use Rattle.std.proofs.Common.{◌+◌, sym, rules, of_calls, nat_lt}
use Rattle.std.proofs.lemmas.Fn.{always_returns_same}
use Rattle.cell_space.specs.Keys.{number_in}
use Rattle.cell_world.proofs.InOrder.{partitioned}
use Rattle.cell_space.proofs.RisingOrder.{first_higher, rising_pairs}
use Rattle.cell_space.proofs.rows.place_for.Goals as goal

pub returns-clause-place : goal.returns-clause-place
returns-clause-place c =
    sym (first_higher c.args.number c.args.cells.now c.partition_point.result c.partition_point.ensures.bound
    (c.partition_point.ensures.partitioned (λ d. nat_lt d.cell.0 (c.args.number + 1)) (always_returns_same _ _ _ (λ a r f k. search (rules, of_calls)))
    (partitioned number_in (c.args.number + 1) c.args.cells.now (rising_pairs c.args.cells.now c.requires))))
