use Rattle.std.proofs.Common.{◌≡◌, ◌+◌, ◌≤◌, ◌++◌, map, take}
use Rattle.cell_world.specs.World.{key_of}
use Rattle.cell_graph.proofs.graph.Graph.add_cell.Given as goal

abbrev pub invariant-loop-section : goal.invariant-loop-section
invariant-loop-section l = record {
  added : l.self.sections ≡ l.fn.self.sections ++ map (key_of l.cell.0) (take l.section-index l.sections);
  room : l.fn.self.spare_sections ≤ l.self.spare_sections + l.section-index;
  rows : l.self.rows ≡ l.fn.self.rows;
  links : l.self.spare_rows ≡ l.fn.self.spare_rows;
}
