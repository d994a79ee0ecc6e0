use Rattle.std.proofs.Common.{◌∙◌, sym}
use Rattle.std.specs.Prelude.{filter}
use Rattle.cell_world.specs.World.{is_ready}
use Rattle.cell_load.proofs.Empty.{empty_if}
use Rattle.cell_change.proofs.Nobody.{nothing_torn}
use Rattle.cell_change.proofs.standing.check_torn.Goals as goal

pub returns-then-is_empty : goal.returns-then-is_empty
returns-then-is_empty c fields same =
    nothing_torn fields (sym same ∙ empty_if c.args.spans.now (sym c.is_empty.ensures ∙ c.if-is_empty.true)) (filter is_ready c.args.tasks.now.tasks)
