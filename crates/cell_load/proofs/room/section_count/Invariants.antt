use Rattle.std.proofs.Common.{◌≡◌, ◌+◌, drop}
use Rattle.cell_commit.specs.Cells.{section_count as sections_in}
use Rattle.cell_load.proofs.room.section_count.Given as goal

-- the sections so far, with those of the cells that are left, are all
abbrev pub invariant-loop-cell : goal.invariant-loop-cell
invariant-loop-cell l = l.n + sections_in (drop l.cell-index l.cells) ≡ sections_in l.cells
