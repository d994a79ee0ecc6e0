use Rattle.cell_laws.proofs.Fresh.{sections_hold}
use Rattle.cell_laws.proofs.contents.sections_hold_fresh_bytes.Goals as goal

pub returns : goal.returns
returns c = sections_hold
