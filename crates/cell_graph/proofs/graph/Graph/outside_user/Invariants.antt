use Rattle.std.proofs.Common.{◌≡◌, ◌+◌, ◌⊎◌, true, length, Contains}
use Rattle.cell_world.specs.declared.state.LinkRow.{LinkRow}
use Rattle.cell_graph.specs.Links.{links_to}
use Rattle.cell_graph.specs.Removal.{is_listed}
use Rattle.cell_graph.proofs.graph.Graph.outside_user.Given as goal

abbrev pub invariant-loop-row : goal.invariant-loop-row
invariant-loop-row g l = record {
  only : (r : LinkRow) → Contains l.users r → Contains (links_to l.fn.sec l.self.rows) r;
  rest : (r : LinkRow) → Contains (links_to l.fn.sec l.self.rows) r → Contains l.users r ⊎ (is_listed l.cells r.user ≡ true);
  steps : l.steps + length l.users ≡ l.fn.steps + length (links_to l.fn.sec l.self.rows);
}

abbrev pub decreases-loop-row : goal.decreases-loop-row
decreases-loop-row g l = length l.users
