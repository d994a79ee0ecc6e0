use Rattle.std.proofs.Common.{◌≡◌, ◌<◌, ℕ, true, get_or, Contains}
use Rattle.cell_world.specs.declared.state.LinkRow.{LinkRow}
use Rattle.cell_graph.specs.Removal.{is_listed}
use Rattle.cell_graph.proofs.graph.Graph.outside_user_of_any.Given as goal

abbrev pub invariant-loop-cell : goal.invariant-loop-cell
invariant-loop-cell g l = (k : ℕ) → k < l.cell-index → (r : LinkRow) → Contains l.self.rows r → r.target.cell.0 ≡ (get_or l.cells k (record { 0 = 0 })).0 → is_listed l.cells r.user ≡ true
