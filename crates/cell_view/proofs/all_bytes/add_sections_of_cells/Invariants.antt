use Rattle.std.proofs.Common.{◌≡◌, ◌++◌, drop}
use Rattle.std.specs.Prelude.{flat_map}
use Rattle.cell_world.specs.declared.state.NewCell.{NewCell}
use Rattle.cell_view.specs.Whole.{content_shown}
use Rattle.cell_view.proofs.all_bytes.add_sections_of_cells.Given as goal

-- the lines so far, and those of the cells that are left, are all of them
abbrev pub invariant-loop-cell : goal.invariant-loop-cell
invariant-loop-cell l =
    l.lines.items ++ flat_map (λ (c : NewCell). flat_map (content_shown l.memory.regions c) c.object.sections) (drop l.cell-index l.cells)
    ≡ l.fn.lines.items ++ flat_map (λ (c : NewCell). flat_map (content_shown l.memory.regions c) c.object.sections) l.cells
