use Rattle.cell_origin_law.proofs.Commands.{outcome_keeps}
use Rattle.cell_origin_law.proofs.commands_keep_files.Goals as goal

pub returns-clause-read : goal.returns-clause-read
returns-clause-read c = λ sources w command d sound apart named h read spelled said e. (outcome_keeps sources sound apart named w h read spelled command said d e).0

pub returns-clause-spelled : goal.returns-clause-spelled
returns-clause-spelled c = λ sources w command d sound apart named h read spelled said e. (outcome_keeps sources sound apart named w h read spelled command said d e).1
