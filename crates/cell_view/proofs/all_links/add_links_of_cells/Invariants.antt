use Rattle.std.proofs.Common.{◌≡◌, ◌++◌, drop}
use Rattle.std.specs.Prelude.{flat_map}
use Rattle.cell_view.specs.Whole.{links_shown}
use Rattle.cell_view.proofs.all_links.add_links_of_cells.Given as goal

-- the links so far, and those of the cells that are left, are all of them
abbrev pub invariant-loop-cell : goal.invariant-loop-cell
invariant-loop-cell l = l.lines.items ++ flat_map (links_shown l.graph.rows) (drop l.cell-index l.cells) ≡ l.fn.lines.items ++ flat_map (links_shown l.graph.rows) l.cells
