use Rattle.std.proofs.Common.{◌∙◌, ap, length, refl, Bool}
use Rattle.cell_link.specs.Linked.{value_at}
use Rattle.cell_plan.specs.declared.changed.Changed.{Changed}
use Rattle.cell_plan.proofs.Marking.{all_taken, fields_long, marks_long}
use Rattle.cell_plan.proofs.changed.Changed.take_in_any.Goals as goal

pub marked_fields-requires-clause-values : goal.marked_fields-requires-clause-values
marked_fields-requires-clause-values c =
    fields_long c.args.cell.now c.args.targets.now c.args.links.now c.in_ok-values.values c.in_ok-values.ensures c.as_slice.result.now c.as_slice.ensures

pub marked_fields-requires-clause-marks : goal.marked_fields-requires-clause-marks
marked_fields-requires-clause-marks c =
    ap (length {A = Bool}) (c.deref.ensures.value ∙ c.in_ok-take_steps.ensures.marks) ∙ marks_long c.args.cell.now c.args.targets.now c.args.links.now c.requires.each

pub returns : goal.returns
returns c =
    let added = c.in_ok-add.ensures {u = tt} in
    let mid : Changed = record c.args.self.now { links = c.take_steps.new.into } in
    all_taken c.args.cell.now c.args.targets.now c.args.links.now c.in_ok-values.values c.in_ok-values.ensures c.deref.result.now c.deref-2.result.now c.args.self.now mid c.add.new.self
    (c.deref.ensures.value ∙ c.in_ok-take_steps.ensures.marks)
    (c.deref-2.ensures.value ∙ c.in_ok-changes.ensures (value_at c.args.cell.now c.args.targets.now) (c.as_slice.ensures ∙ c.in_ok-values.ensures.1))
    c.in_ok-take_steps.ensures.links added.links refl refl added.patches added.spans
