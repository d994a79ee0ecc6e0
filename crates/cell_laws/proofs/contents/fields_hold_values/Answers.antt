use Rattle.cell_laws.proofs.Fresh.{fields_hold}
use Rattle.cell_laws.proofs.contents.fields_hold_values.Goals as goal

pub returns : goal.returns
returns c = fields_hold
