use Rattle.std.proofs.Common.{◌≡◌, ◌<◌, ℕ, true, get_or, Contains}
use Rattle.cell_world.specs.declared.state.LinkRow.{LinkRow}
use Rattle.cell_graph.specs.declared.order.SectionPlace.{SectionPlace}
use Rattle.cell_graph.specs.Removal.{is_listed}
use Rattle.cell_graph.proofs.graph.Graph.outside_user_of.Given as goal

abbrev pub invariant-loop-index : goal.invariant-loop-index
invariant-loop-index g l = (k : ℕ) (d : SectionPlace) → k < l.index → (r : LinkRow) → Contains l.self.rows r → r.target ≡ (get_or l.sections k d).key → is_listed l.cells r.user ≡ true
