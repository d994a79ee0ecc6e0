use Rattle.std.proofs.Common.{◌≡◌, ◌++◌, drop, map}
use Rattle.cell_view.specs.Whole.{place_shown}
use Rattle.cell_view.proofs.all_cells.add_places.Given as goal

-- the lines so far, and those of the sections that are left, are all of them
abbrev pub invariant-loop-section : goal.invariant-loop-section
invariant-loop-section l = l.lines.items ++ map (place_shown l.cell) (drop l.section-index l.cell.object.sections) ≡ l.fn.lines.items ++ map (place_shown l.cell) l.cell.object.sections
