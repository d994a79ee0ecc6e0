use Rattle.std.proofs.Common.{◌≡◌, ◌∙◌, ◌+◌, ◌<◌, ap, arith, subst, suc, ℕ, List, length, take}
use Rattle.cell_xfer.specs.Named.{AnswersAs}
use Rattle.cell_xfer.proofs.Answering.{answers_added}
use Rattle.cell_change.specs.Transferring.{old_rows}
use Rattle.cell_change.proofs.Decision.Rows.{old_more}
use Rattle.cell_change.proofs.transferring.old_addresses.Goals as goal

pub loop-cell-preserved : goal.loop-cell-preserved
loop-cell-preserved c =
    let lt : c.loop-cell.cell-index < length c.args.old.now = omega arith in
    let next : suc c.loop-cell.cell-index ≡ c.loop-cell.cell-index + 1 = omega arith in
    subst (λ (rows : List (List ℕ × ℕ)). AnswersAs c.add_old.new.table rows)
    (old_more c.args.machine.now c.args.old.now c.loop-cell.cell-index _ lt ∙ ap (λ (k : ℕ). old_rows c.args.machine.now (take k c.args.old.now)) next)
    (answers_added c.loop-cell.table c.add_old.new.table (old_rows c.args.machine.now (take c.loop-cell.cell-index c.args.old.now)) _ c.loop-cell.invariant (c.in_ok-add_old.ensures {u = tt}))
