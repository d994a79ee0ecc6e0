use Rattle.std.proofs.Common.{◌∙◌, ap, map, sym}
use Rattle.cell_link.specs.Linked.{value_at}
use Rattle.cell_plan.proofs.Climbing.{own_fields}
use Rattle.cell_plan.proofs.values.values_of.Goals as goal

pub returns-in-Some : goal.returns-in-Some
returns-in-Some c = (
  rw c.in-Some.is at c.in_ok-values.ensures.fit,
  c.from_vec.ensures ∙ (rw c.in-Some.is at c.in_ok-values.ensures.values ∙ ap (map (value_at c.args.cell.now c.args.targets.now)) (sym (own_fields c.args.cell.now.object.entries c.requires.rises))),
)
