-- What changes in one cell, as it is added to what changes in the cells before it.
--     Takes c targets links was r now      the fields that change are added with the places where no task may stand, and the links that do;
--                                          or the first entry that doesn't fit is refused
use Rattle.std.specs.Prelude.{◌≡◌, ◌++◌, List, None, Result, Ok, Err, map}
use Rattle.cell_world.specs.declared.fail.Fail.{Fail}
use Rattle.cell_world.specs.declared.state.LinkRow.{LinkRow}
use Rattle.cell_world.specs.declared.state.NewCell.{NewCell}
use Rattle.cell_world.specs.declared.state.Target.{Target}
use Rattle.cell_world.specs.Linked.Field.{misfit_of}
use Rattle.cell_link.specs.Linked.{bound_in, value_at}
use Rattle.cell_link.specs.LinksBy.{LinksBy}
use Rattle.cell_plan.specs.declared.changed.Changed.{Changed}
use Rattle.cell_plan.specs.Spans.{span_in}
use Rattle.cell_plan.specs.Steps.{HasSteps, changed_fields, steps_of}

pub record HasTaken (c : NewCell) (targets : List Target) (links : List LinkRow) (was now : Changed) : Type 0 where
  pub fit : misfit_of c (bound_in c targets) ≡ None
  pub patches : now.patches.items ≡ was.patches.items ++ map (value_at c targets) (changed_fields c targets links)
  pub steps : HasSteps (steps_of c targets links) was.links now.links
  pub spans : now.spans.items ≡ was.spans.items ++ map (span_in c) (changed_fields c targets links)

abbrev pub Takes : NewCell → List Target → List LinkRow → Changed → Result (Unit {0}) Fail → Changed → Type 0
Takes c targets links was (Ok done) now = HasTaken c targets links was now
Takes c targets links was (Err fail) now = LinksBy c targets (Err fail)
