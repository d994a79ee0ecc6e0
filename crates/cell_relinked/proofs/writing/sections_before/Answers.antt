use Rattle.std.proofs.Common.{rules, of_calls, nat_lt}
use Rattle.std.proofs.lemmas.Fn.{always_returns_same}
use Rattle.cell_object.specs.declared.object.Section.{Section as ObjectSection}
use Rattle.cell_world.proofs.InOrder.{partitioned}
use Rattle.cell_relinked.proofs.writing.sections_before.Goals as goal

pub returns : goal.returns
returns c =
    c.partition_point.ensures.partitioned (λ s. nat_lt s.number c.args.number) (always_returns_same _ _ _ (λ a r f k. search (rules, of_calls)))
    (partitioned (λ (s : ObjectSection). s.number) c.args.number c.args.sections.now c.requires)
