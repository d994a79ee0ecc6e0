use Rattle.cell_audit_laws.proofs.Anew.{all_fresh, no_lacking, no_unlinked}
use Rattle.cell_audit_laws.proofs.Stands.{no_misplaced}
use Rattle.cell_audit_laws.proofs.dump_has_no_fault.Goals as goal

pub returns-clause-objects : goal.returns-clause-objects
returns-clause-objects c = no_lacking

pub returns-clause-places : goal.returns-clause-places
returns-clause-places c = no_misplaced

pub returns-clause-links : goal.returns-clause-links
returns-clause-links c = no_unlinked

pub returns-clause-fresh : goal.returns-clause-fresh
returns-clause-fresh c = all_fresh
