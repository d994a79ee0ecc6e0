use Rattle.cell_lemmas.proofs.Targeting.Present.{links_present}
use Rattle.cell_laws.proofs.presence.links_join_present.Goals as goal

pub returns : goal.returns
returns c = links_present
