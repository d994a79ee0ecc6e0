-- An exchange as a view of the parts, and one cell more in what changes.
--     view_of x                       what the exchange sees
--     Adds x c old result new         what changes in the cell is added, or that is refused
use Rattle.std.specs.Prelude.{◌≡◌, ◌++◌, Some, None, Result, Ok, Err}
use Rattle.cell_world.specs.declared.fail.Fail.{Fail}
use Rattle.cell_world.specs.declared.fail.Fail.TheVariants.{Refused, OutOfMemory}
use Rattle.cell_world.specs.declared.state.NewCell.{NewCell}
use Rattle.cell_target.specs.Scene.{seen}
use Rattle.cell_plan.specs.declared.changed.Changed.{Changed}
use Rattle.cell_plan.specs.declared.exchange.Exchange.{Exchange}
use Rattle.cell_plan.specs.Steps.{HasSteps}
use Rattle.cell_plan.specs.Exchanged.{View, patches_of, spans_of, steps_in, unfit_of}

abbrev pub view_of : Exchange → View
view_of x =
    record {
      spaces = x.spaces.now;
      links = x.graph.now.rows;
      now = seen x.scene.now.ahead.now.namespaces (x.scene.now.present.now ++ x.scene.now.fresh.now) x.scene.now.ahead.now.cells;
    }

pub record HasAdded (x : View) (c : NewCell) (old new : Changed) : Type 0 where
  pub fit : unfit_of x c ≡ None
  pub patches : new.patches.items ≡ old.patches.items ++ patches_of x c
  pub links : HasSteps (steps_in x c) old.links new.links
  pub spans : new.spans.items ≡ old.spans.items ++ spans_of x c

abbrev pub Adds : View → NewCell → Changed → Result (Unit {0}) Fail → Changed → Type 0
Adds x c old (Ok done) new = HasAdded x c old new
Adds x c old (Err (Refused refusal)) new = unfit_of x c ≡ Some refusal
Adds x c old (Err OutOfMemory) new = Unit {0}
