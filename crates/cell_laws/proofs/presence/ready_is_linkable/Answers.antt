use Rattle.cell_lemmas.proofs.Placement.Inside.{ready_linkable}
use Rattle.cell_laws.proofs.presence.ready_is_linkable.Goals as goal

pub returns : goal.returns
returns c = ready_linkable
