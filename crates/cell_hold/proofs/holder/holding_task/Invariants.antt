use Rattle.std.proofs.Common.{◌≡◌, drop}
use Rattle.cell_world.specs.Kept.{holding_task}
use Rattle.cell_hold.specs.Reached.{rooted}
use Rattle.cell_hold.proofs.holder.holding_task.Given as goal

-- the roots that are left decide
abbrev pub invariant-loop-root : goal.invariant-loop-root
invariant-loop-root l = holding_task (rooted l.memory l.places l.roots) l.cell.0 ≡ holding_task (rooted l.memory l.places (drop l.root-index l.roots)) l.cell.0
