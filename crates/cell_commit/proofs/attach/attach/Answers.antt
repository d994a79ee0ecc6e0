use Rattle.std.proofs.Common.{◌∙◌}
use Rattle.cell_commit.specs.Cells.{arrived}
use Rattle.cell_commit.proofs.NewcomersLeft.{above_absent, above_last}
use Rattle.cell_commit.proofs.attach.attach.Goals as goal

pub attach-requires-clause-new : goal.attach-requires-clause-new
attach-requires-clause-new c = above_absent c.args.newcomer.cell.0 c.args.spaces.now.cells c.requires.free.above

pub returns-clause-cells : goal.returns-clause-cells
returns-clause-cells c = c.attach.ensures.added ∙ above_last (arrived c.args.newcomer) c.args.spaces.now.cells c.requires.free.above
