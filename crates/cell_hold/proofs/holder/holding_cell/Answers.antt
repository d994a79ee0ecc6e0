use Rattle.std.proofs.Common.{sym, ◌∙◌}
use Rattle.cell_hold.specs.Reached.{linked}
use Rattle.cell_hold.proofs.Claiming.{cell_holding, cell_passed, no_cell}
use Rattle.cell_hold.proofs.holder.holding_cell.Goals as goal

pub returns-then-is_holder : goal.returns-then-is_holder
returns-then-is_holder c =
    cell_holding (linked c.args.graph.now c.args.memory.now c.args.places.now) c.args.cell.0 c.args.cells.now c.loop-other.other-index (record { 0 = 0 }) c.loop-other-test.true (sym c.is_holder.ensures ∙ c.if-is_holder.true) c.loop-other.invariant

pub loop-other-preserved : goal.loop-other-preserved
loop-other-preserved c =
    cell_passed (linked c.args.graph.now c.args.memory.now c.args.places.now) c.args.cell.0 c.args.cells.now c.loop-other.other-index (record { 0 = 0 }) c.loop-other-test.true (sym c.is_holder.ensures ∙ c.if-is_holder.false) c.loop-other.invariant

pub returns : goal.returns
returns c = no_cell (linked c.args.graph.now c.args.memory.now c.args.places.now) c.args.cell.0 c.args.cells.now c.loop-other.other-index c.loop-other-test.false c.loop-other.invariant
