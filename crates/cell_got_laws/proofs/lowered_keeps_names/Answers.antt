use Rattle.cell_got_laws.proofs.Names.{definitions_stay, needs_stay, weak_stay}
use Rattle.cell_got_laws.proofs.lowered_keeps_names.Goals as goal

pub returns-clause-definitions : goal.returns-clause-definitions
returns-clause-definitions c = definitions_stay

pub returns-clause-weak : goal.returns-clause-weak
returns-clause-weak c = weak_stay

pub returns-clause-needs : goal.returns-clause-needs
returns-clause-needs c = needs_stay
