use Rattle.cell_lemmas.proofs.Naming.Attach.{firm_is}
use Rattle.cell_lemmas.proofs.Naming.Attaching.{attached_firm}
use Rattle.cell_laws.proofs.targets.attaching_keeps_firm_targets.Goals as goal

pub returns-clause-firm : goal.returns-clause-firm
returns-clause-firm c = firm_is

pub returns-clause-kept : goal.returns-clause-kept
returns-clause-kept c = attached_firm
