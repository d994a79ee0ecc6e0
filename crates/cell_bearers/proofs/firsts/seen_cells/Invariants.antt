use Rattle.std.proofs.Common.{◌≡◌, map, take}
use Rattle.cell_bearers.specs.Seeing.{sees}
use Rattle.cell_bearers.proofs.firsts.seen_cells.Given as goal

-- those so far
abbrev pub invariant-loop-place : goal.invariant-loop-place
invariant-loop-place l = l.seen.items ≡ map (sees l.asked l.spaces) (take l.place l.cells)
