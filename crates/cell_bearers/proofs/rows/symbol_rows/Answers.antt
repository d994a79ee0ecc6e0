use Rattle.std.proofs.Common.{List, ◌∙◌, ap, length, refl, replicate, sym}
use Rattle.cell_object.specs.declared.object.Object.{Object}
use Rattle.cell_object.specs.declared.object.Symbol.{Symbol}
use Rattle.cell_bearers.specs.Rows.{no_row}
use Rattle.cell_bearers.proofs.Reading.{mapped_more}
use Rattle.cell_bearers.proofs.rows.symbol_rows.Goals as goal

pub loop-index-preserved : goal.loop-index-preserved
loop-index-preserved c =
    let xs = c.args.objects.now in
    mapped_more xs xs refl c.loop-index.index c.index-objects-index.result c.loop-index-test.true c.index-objects-index.is
    (λ (o : Object). replicate (length o.symbols) no_row) c.in_ok-no_rows.field-0 c.loop-index.table.items _
    c.in_ok-push.ensures.items (c.in_ok-no_rows.ensures ∙ (ap (λ (ss : List Symbol). replicate (length ss) no_row) c.as_slice.ensures ∙ ap (λ (o : Object). replicate (length o.symbols) no_row) (sym c.index-objects-index.is))) c.loop-index.invariant
