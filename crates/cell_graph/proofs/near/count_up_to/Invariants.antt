use Rattle.std.proofs.Common.{◌≡◌, ℕ, ◌<◌, true, leb, get_or}
use Rattle.cell_graph.specs.declared.order.RowPlace.{RowPlace}
use Rattle.cell_graph.proofs.near.count_up_to.Given as goal

-- all so far are of the cell or of lower ones
abbrev pub invariant-loop-index : goal.invariant-loop-index
invariant-loop-index l = (k : ℕ) (d : RowPlace) → k < l.index → leb (get_or l.list k d).user.cell.0 l.cell.0 ≡ true
