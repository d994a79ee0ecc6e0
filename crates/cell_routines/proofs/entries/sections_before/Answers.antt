use Rattle.std.proofs.Common.{rules, of_calls, nat_lt}
use Rattle.std.proofs.lemmas.Fn.{always_returns_same}
use Rattle.cell_world.proofs.InOrder.{partitioned}
use Rattle.cell_routines.specs.Begins.{section_number}
use Rattle.cell_routines.proofs.entries.sections_before.Goals as goal

pub returns : goal.returns
returns c =
    c.partition_point.ensures.partitioned (λ s. nat_lt s.number c.args.number) (always_returns_same _ _ _ (λ a r f k. search (rules, of_calls)))
    (partitioned section_number c.args.number c.args.sections.now c.requires)
