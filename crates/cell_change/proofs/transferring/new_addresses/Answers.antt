use Rattle.std.proofs.Common.{◌≡◌, ◌∙◌, ◌+◌, ◌++◌, ◌<◌, ap, ap₂, arith, subst, suc, ℕ, List, length, take}
use Rattle.cell_world.specs.World.{Alias}
use Rattle.cell_world.specs.declared.state.NewCell.{NewCell}
use Rattle.cell_routines.specs.Placed.{addresses_by}
use Rattle.cell_xfer.specs.Named.{AnswersAs}
use Rattle.cell_xfer.proofs.Answering.{answers_added}
use Rattle.cell_change.specs.Transferring.{new_rows}
use Rattle.cell_change.proofs.Decision.Rows.{new_more}
use Rattle.cell_change.proofs.transferring.new_addresses.Goals as goal

pub loop-place-preserved : goal.loop-place-preserved
loop-place-preserved c =
    let s = c.args.staged.now in
    let k = c.loop-place.place in
    let cell = c.index.result.now in
    let names = c.index-in-loop-place.result.now in
    let lt : k < length s.cells.items = omega arith in
    let next : suc k ≡ k + 1 = omega arith in
    let before = new_rows (take k s.cells.items) (take k s.names.items) in
    subst (λ (rows : List (List ℕ × ℕ)). AnswersAs c.add_addresses.new.table rows)
    (ap₂ (λ (x : NewCell) (own : List Alias). before ++ addresses_by x own) c.index.ensures c.index-in-loop-place.ensures
    ∙ (new_more s.cells.items s.names.items k cell names c.requires.names lt ∙ ap (λ (n : ℕ). new_rows (take n s.cells.items) (take n s.names.items)) next))
    (answers_added c.loop-place.table c.add_addresses.new.table before (addresses_by cell names) c.loop-place.invariant (c.in_ok-add_addresses.ensures {u = tt}))
