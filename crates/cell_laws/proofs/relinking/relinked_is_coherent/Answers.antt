use Rattle.cell_lemmas.proofs.Fields.Relinks.{coherent_relinked}
use Rattle.cell_laws.proofs.relinking.relinked_is_coherent.Goals as goal

pub returns : goal.returns
returns c = coherent_relinked
