use Rattle.cell_got.proofs.LowerLoadable.{lower_loadable}
use Rattle.cell_got.proofs.lowered_is_loadable.Goals as goal

pub returns : goal.returns
returns c = lower_loadable
