use Rattle.cell_hold.proofs.Claiming.{holder_is_cell, holder_is_task}
use Rattle.cell_hold.proofs.holder.find_holder.Goals as goal

pub returns-in-Some : goal.returns-in-Some
returns-in-Some c = λ cells e. holder_is_task c.args.graph.now c.args.memory.now c.args.places.now c.args.roots.now cells c.args.cell.0 c.in-Some.task c.in-Some.ensures

pub returns-in-None : goal.returns-in-None
returns-in-None c = λ cells e. holder_is_cell c.args.graph.now c.args.memory.now c.args.places.now c.args.roots.now cells c.args.cell.0 _ _ c.in-None.ensures c.holding_cell.ensures e
