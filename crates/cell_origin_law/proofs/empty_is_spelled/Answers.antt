use Rattle.cell_origin_law.proofs.Commands.{empty_spelled}
use Rattle.cell_origin_law.proofs.empty_is_spelled.Goals as goal

pub returns : goal.returns
returns c = empty_spelled
