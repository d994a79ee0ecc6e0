use Rattle.std.proofs.Common.{◌∙◌, sym, map, arith}
use Rattle.cell_unload.proofs.Leftovers.{holds_numbers}
use Rattle.cell_unload.proofs.OneByOne.{can_go, goes_now, stays_now}
use Rattle.cell_unload.proofs.removal.unmap_cells.Goals as goal
use Rattle.cell_unload.proofs.removal.unmap_cells.Goals.{else-is_listed, then-is_listed}

pub unmap_cell-requires-clause-there : goal.unmap_cell-requires-clause-there
unmap_cell-requires-clause-there c =
    let cell = c.index-present-place.result in
    can_go (map (λ d. d.0) c.args.cells.now) c.args.present.now c.loop-place.place cell (omega arith) c.index-present-place.is c.loop-place.memory c.loop-place.invariant.there
    (sym (holds_numbers c.args.cells.now cell.id.0) ∙ (sym c.is_listed.ensures ∙ c.if-is_listed.true))

pub loop-place-preserved : goal.loop-place-preserved
loop-place-preserved c =
    let cell = c.index-present-place.result in
    let listed = sym (holds_numbers c.args.cells.now cell.id.0) ∙ sym c.is_listed.ensures in
    elim c.if-is_listed.branch [
      | then-is_listed w ↦
          let more = goes_now (map (λ d. d.0) c.args.cells.now) c.args.present.now c.loop-place.place cell (omega arith) c.index-present-place.is c.loop-place.memory c.loop-place.invariant.there
          (listed ∙ w.if-is_listed.true) c.if-is_listed.memory (w.memory-is ∙ w.unmap_cell.ensures.memory) in
          record { left = more.left ∙ c.loop-place.invariant.left; there = more.there; tabled = rw (w.memory-is, w.space-is) w.unmap_cell.ensures.tabled }
      | else-is_listed w ↦
          let more = stays_now (map (λ d. d.0) c.args.cells.now) c.args.present.now c.loop-place.place cell (omega arith) c.index-present-place.is c.loop-place.memory c.loop-place.invariant.there
          (listed ∙ w.if-is_listed.false) c.if-is_listed.memory w.memory-is in
          record { left = more.left ∙ c.loop-place.invariant.left; there = more.there; tabled = rw (w.memory-is, w.space-is) c.loop-place.invariant.tabled }
    ]
