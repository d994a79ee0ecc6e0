use Rattle.std.proofs.Common.{◌≡◌, ◌≤◌, ◌++◌, drop}
use Rattle.std.specs.Prelude.{flat_map}
use Rattle.cell_commit.specs.Cells.{AreAbove, keys_in, section_count}
use Rattle.cell_commit.proofs.sections.add_sections.Given as goal

-- the sections so far, with those of the cells that are left, are as they are to be
abbrev pub invariant-loop-cell : goal.invariant-loop-cell
invariant-loop-cell l = record {
  sections : l.graph.sections ++ flat_map keys_in (drop l.cell-index l.cells) ≡ l.fn.graph.sections ++ flat_map keys_in l.cells;
  rows : l.graph.rows ≡ l.fn.graph.rows;
  room_for_rows : l.fn.graph.spare_rows ≤ l.graph.spare_rows;
  room : section_count (drop l.cell-index l.cells) ≤ l.graph.spare_sections;
  above : AreAbove l.graph.sections (drop l.cell-index l.cells);
}
