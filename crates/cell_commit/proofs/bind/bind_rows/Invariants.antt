use Rattle.std.proofs.Common.{◌≡◌, ◌≤◌, ◌+◌, ◌++◌, length, drop}
use Rattle.cell_commit.proofs.bind.bind_rows.Given as goal

-- the links so far, with those that are left, are as they are to be
abbrev pub invariant-loop-row : goal.invariant-loop-row
invariant-loop-row l = record {
  rows : l.graph.rows ++ drop l.row-index l.rows ≡ l.fn.graph.rows ++ l.rows;
  sections : l.graph.sections ≡ l.fn.graph.sections;
  room : length l.rows ≤ l.graph.spare_rows + l.row-index;
  left : l.fn.graph.spare_rows ≤ l.graph.spare_rows + l.row-index;
}
