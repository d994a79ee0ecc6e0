use Rattle.std.proofs.Common.{◌≡◌, ◌-◌, ◌<◌, ◌⊎◌, inl, inr, get_or, arith}
use Rattle.std.proofs.lemmas.Bool.{leb-true}
use Rattle.cell_world.specs.declared.state.Placed.{Placed}
use Rattle.cell_hold.proofs.Cutting.{starts_here, lower_at, no_lower_at}
use Rattle.cell_hold.proofs.sections.is_start.Goals as goal
use Rattle.cell_hold.proofs.sections.is_start.Goals.{else-index-gt0-via-then-index-gt0+else-places-index, else-index-gt0-via-else-index-gt0}

pub returns-then-index-places-2-clause-lower : goal.returns-then-index-places-2-clause-lower
returns-then-index-places-2-clause-lower c = λ yes.
    let low : (c.args.index ≡ 0) ⊎ ((d : Placed) → (get_or c.args.places.now (c.args.index - 1) d).key.cell.0 < c.args.cell.0)
    = elim c.else-index-gt0.branch [
      | else-index-gt0-via-then-index-gt0+else-places-index w ↦ inr (lower_at c.args.places.now c.args.cell.0 c.requires (c.args.index - 1) _ (omega arith) w.if-places-index.false)
      | else-index-gt0-via-else-index-gt0 w ↦ inl (omega arith)
    ] in
    starts_here c.args.places.now c.args.cell.0 c.requires c.args.index (omega arith) low (inl (omega arith))

pub returns-else-index-places-2-clause-lower : goal.returns-else-index-places-2-clause-lower
returns-else-index-places-2-clause-lower c = λ yes.
    let low : (c.args.index ≡ 0) ⊎ ((d : Placed) → (get_or c.args.places.now (c.args.index - 1) d).key.cell.0 < c.args.cell.0)
    = elim c.else-index-gt0.branch [
      | else-index-gt0-via-then-index-gt0+else-places-index w ↦ inr (lower_at c.args.places.now c.args.cell.0 c.requires (c.args.index - 1) _ (omega arith) w.if-places-index.false)
      | else-index-gt0-via-else-index-gt0 w ↦ inl (omega arith)
    ] in
    starts_here c.args.places.now c.args.cell.0 c.requires c.args.index (omega arith) low
    (inr (no_lower_at c.args.places.now c.args.cell.0 c.requires c.args.index _ (omega arith) (leb-true c.args.cell.0 _ yes)))
