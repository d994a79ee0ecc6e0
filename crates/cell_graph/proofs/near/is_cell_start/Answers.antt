use Rattle.std.proofs.Common.{◌≡◌, ◌-◌, ◌<◌, ◌⊎◌, inl, inr, get_or, arith}
use Rattle.std.proofs.lemmas.Bool.{leb-true}
use Rattle.cell_graph.specs.declared.order.RowPlace.{RowPlace}
use Rattle.cell_graph.proofs.Nearby.{starts_here, lower_at, no_lower_at}
use Rattle.cell_graph.proofs.near.is_cell_start.Goals as goal
use Rattle.cell_graph.proofs.near.is_cell_start.Goals.{else-index-gt0-via-then-index-gt0+else-list-index, else-index-gt0-via-else-index-gt0}

pub returns-then-index-list-2-clause-cut : goal.returns-then-index-list-2-clause-cut
returns-then-index-list-2-clause-cut c = λ yes.
    let low : (c.args.index ≡ 0) ⊎ ((d : RowPlace) → (get_or c.args.list.now (c.args.index - 1) d).user.cell.0 < c.args.cell.0)
    = elim c.else-index-gt0.branch [
      | else-index-gt0-via-then-index-gt0+else-list-index w ↦ inr (lower_at c.args.list.now c.args.cell.0 c.requires (c.args.index - 1) _ (omega arith) w.if-list-index.false)
      | else-index-gt0-via-else-index-gt0 w ↦ inl (omega arith)
    ] in
    starts_here c.args.list.now c.args.cell.0 c.requires c.args.index (omega arith) low (inl (omega arith))

pub returns-else-index-list-2-clause-cut : goal.returns-else-index-list-2-clause-cut
returns-else-index-list-2-clause-cut c = λ yes.
    let low : (c.args.index ≡ 0) ⊎ ((d : RowPlace) → (get_or c.args.list.now (c.args.index - 1) d).user.cell.0 < c.args.cell.0)
    = elim c.else-index-gt0.branch [
      | else-index-gt0-via-then-index-gt0+else-list-index w ↦ inr (lower_at c.args.list.now c.args.cell.0 c.requires (c.args.index - 1) _ (omega arith) w.if-list-index.false)
      | else-index-gt0-via-else-index-gt0 w ↦ inl (omega arith)
    ] in
    starts_here c.args.list.now c.args.cell.0 c.requires c.args.index (omega arith) low
    (inr (no_lower_at c.args.list.now c.args.cell.0 c.requires c.args.index _ (omega arith) (leb-true c.args.cell.0 _ yes)))
