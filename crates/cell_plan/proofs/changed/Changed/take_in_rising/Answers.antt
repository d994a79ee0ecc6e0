use Rattle.std.proofs.Common.{◌∙◌, ap, sym, refl, length, Bool}
use Rattle.cell_world.specs.declared.state.NewCell.{NewCell}
use Rattle.cell_plan.specs.declared.changed.Changed.{Changed}
use Rattle.cell_plan.proofs.Marking.{marks_long, taken, values_long}
use Rattle.cell_plan.proofs.changed.Changed.take_in_rising.Goals as goal

pub add_marked-requires-clause-values : goal.add_marked-requires-clause-values
add_marked-requires-clause-values c =
    values_long c.args.cell.now c.in_ok-lasts.lasts.cell.now c.args.targets.now c.as_slice.result.now c.requires.rises c.in_ok-lasts.ensures (c.in_ok-values.ensures.0, c.as_slice.ensures ∙ c.in_ok-values.ensures.1)

pub add_marked-requires-clause-marks : goal.add_marked-requires-clause-marks
add_marked-requires-clause-marks c =
    ap (length {A = Bool}) (c.deref.ensures.value ∙ c.in_ok-take_steps.ensures.marks)
    ∙ (marks_long c.args.cell.now c.args.targets.now c.args.links.now c.requires.each ∙ ap (λ (d : NewCell). length d.object.entries) (sym c.in_ok-lasts.ensures))

pub returns : goal.returns
returns c =
    let added = c.in_ok-add_marked.ensures {u = tt} in
    let mid : Changed = record c.args.self.now { links = c.take_steps.new.into } in
    let are = c.deref.ensures.value ∙ c.in_ok-take_steps.ensures.marks in
    taken c.args.cell.now c.in_ok-lasts.lasts.cell.now c.args.targets.now c.as_slice.result.now c.requires.rises c.in_ok-lasts.ensures (c.in_ok-values.ensures.0, c.as_slice.ensures ∙ c.in_ok-values.ensures.1)
    c.args.links.now c.args.self.now mid c.add_marked.new.self c.deref.result.now are
    (ap (length {A = Bool}) are ∙ marks_long c.args.cell.now c.args.targets.now c.args.links.now c.requires.each)
    c.in_ok-take_steps.ensures.links added.links refl refl added.patches added.spans
