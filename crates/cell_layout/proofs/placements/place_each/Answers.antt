use Rattle.std.proofs.Common.{arith}
use Rattle.std.proofs.lemmas.Result.{err_from_is_err_and}
use Rattle.cell_layout.proofs.ManyCells.{all_placed, one_further, placed_none, sound_here, stops_here}
use Rattle.cell_layout.proofs.placements.place_each.Goals as goal

pub loop-cell-init : goal.loop-cell-init
loop-cell-init c = placed_none _ _ c.new-placements.ensures.places c.new-placements.ensures.regions

pub place-requires : goal.place-requires
place-requires c = sound_here _ _ _ _ _ _ c.loop-cell-test.true c.cell-item.is c.loop-cell.invariant c.requires

pub returns-in_err-placement : goal.returns-in_err-placement
returns-in_err-placement c =
    let p = err_from_is_err_and c.from_residual.result c.from_residual.ensures.1 in
    rw (p.1, p.2) (stops_here _ _ _ _ _ _ c.loop-cell-test.true c.cell-item.is c.loop-cell.invariant c.in_err-placement.field-0.0 _ _ (c.in_err-placement.ensures {u = tt}))

pub loop-cell-preserved : goal.loop-cell-preserved
loop-cell-preserved c =
    one_further _ _ _ _ _ _ c.loop-cell-test.true c.cell-item.is c.loop-cell.invariant _ _ _ (c.in_ok-placement.ensures {u = tt}) c.in_ok-add.ensures.places c.in_ok-add.ensures.regions

pub returns : goal.returns
returns c = all_placed _ _ _ _ _ (omega (arith, c.loop-cell-test.false)) c.loop-cell.invariant
