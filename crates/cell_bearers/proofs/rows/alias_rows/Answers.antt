use Rattle.std.proofs.Common.{sym, arith, ℕ, ◌≡◌, ◌∙◌, ap, length, refl, replicate}
use Rattle.std.specs.Vec.{vec_len}
use Rattle.cell_described.specs.declared.cell.DescribedCell.{DescribedCell}
use Rattle.cell_bearers.specs.Rows.{no_row}
use Rattle.cell_bearers.proofs.Reading.{mapped_more}
use Rattle.cell_bearers.proofs.rows.alias_rows.Goals as goal

pub loop-index-preserved : goal.loop-index-preserved
loop-index-preserved c =
    let xs = c.args.cells.now in
    let len = c.len.ensures ∙ ap (λ (d : DescribedCell). vec_len d.aliases) (sym c.index-cells-index.is) in
    let size = c.index-cells-index.result.aliases.ok.0 in
    let count : c.len.result ≡ length c.index-cells-index.result.aliases.items = omega (arith, len, size) in
    mapped_more xs xs refl c.loop-index.index c.index-cells-index.result c.loop-index-test.true c.index-cells-index.is
    (λ (d : DescribedCell). replicate (length d.aliases.items) no_row) c.in_ok-no_rows.field-0 c.loop-index.table.items _
    c.in_ok-push.ensures.items (c.in_ok-no_rows.ensures ∙ ap (λ (n : ℕ). replicate n no_row) count) c.loop-index.invariant
