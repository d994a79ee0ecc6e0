use Rattle.cell_lemmas.proofs.Fields.Relinks.{relinked_again}
use Rattle.cell_laws.proofs.relinking.relink_twice_is_once.Goals as goal

pub returns : goal.returns
returns c = relinked_again
