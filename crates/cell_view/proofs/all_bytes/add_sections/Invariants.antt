use Rattle.std.proofs.Common.{◌≡◌, ◌++◌, drop}
use Rattle.std.specs.Prelude.{flat_map}
use Rattle.cell_view.specs.Whole.{content_shown}
use Rattle.cell_view.proofs.all_bytes.add_sections.Given as goal

-- the lines so far, and those of the sections that are left, are all of them
abbrev pub invariant-loop-section : goal.invariant-loop-section
invariant-loop-section l =
    l.lines.items ++ flat_map (content_shown l.memory.regions l.cell) (drop l.section-index l.cell.object.sections)
    ≡ l.fn.lines.items ++ flat_map (content_shown l.memory.regions l.cell) l.cell.object.sections
