use Rattle.cell_origin_law.proofs.Commands.{files_named}
use Rattle.cell_origin_law.proofs.files_are_named.Goals as goal

pub returns : goal.returns
returns c = files_named
