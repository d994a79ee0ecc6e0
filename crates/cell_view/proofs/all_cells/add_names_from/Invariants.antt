use Rattle.std.proofs.Common.{◌≡◌, ◌++◌, drop, map}
use Rattle.cell_view.specs.Whole.{alias_shown}
use Rattle.cell_view.proofs.all_cells.add_names_from.Given as goal

-- the lines so far, and those of the names that are left, are all of them
abbrev pub invariant-loop-place : goal.invariant-loop-place
invariant-loop-place l = l.lines.items ++ map (alias_shown l.cell) (drop l.place l.names) ≡ l.fn.lines.items ++ map (alias_shown l.cell) (drop l.first l.names)
