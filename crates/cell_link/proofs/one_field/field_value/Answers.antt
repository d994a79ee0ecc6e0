use Rattle.cell_link.specs.Linked.{IsFieldValue}
use Rattle.cell_link.proofs.TableLemmas.{at_place}
use Rattle.cell_link.proofs.one_field.field_value.Goals as goal

pub returns : goal.returns
returns c =
    at_place (λ f. IsFieldValue c.args.cell.now c.args.targets.now f c.field.result) c.args.cell.now.object.entries c.args.first _ c.requires.inside (rw c.as_slice.ensures at c.field.ensures)
