use Rattle.cell_lemmas.proofs.Holding.Holders.{has_holder, first_held_exact}
use Rattle.cell_laws.proofs.removal.kept_has_holder.Goals as goal

pub returns-clause-holder : goal.returns-clause-holder
returns-clause-holder c = has_holder

pub returns-clause-first : goal.returns-clause-first
returns-clause-first c = first_held_exact
