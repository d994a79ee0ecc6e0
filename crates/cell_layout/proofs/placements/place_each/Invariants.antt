use Rattle.std.proofs.Common.{take}
use Rattle.cell_layout.specs.Many.{AreFound}
use Rattle.cell_layout.proofs.placements.place_each.Given as goal

-- the cells so far have their places
abbrev pub invariant-loop-cell : goal.invariant-loop-cell
invariant-loop-cell l = AreFound l.fn.space (take l.cell-index l.cells) l.placements l.space
