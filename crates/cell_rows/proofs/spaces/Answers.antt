use Rattle.std.proofs.Common.{refl}
use Rattle.cell_rows.proofs.spaces.Goals as goal

pub returns : goal.returns
returns c = refl
