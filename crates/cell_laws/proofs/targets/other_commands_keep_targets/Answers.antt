use Rattle.cell_laws.proofs.Others.{others_keep}
use Rattle.cell_laws.proofs.targets.other_commands_keep_targets.Goals as goal

pub returns : goal.returns
returns c = others_keep
