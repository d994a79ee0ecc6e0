use Rattle.cell_lemmas.proofs.Targeting.Present.{targets_present}
use Rattle.cell_laws.proofs.presence.entries_name_present.Goals as goal

pub returns : goal.returns
returns c = targets_present
