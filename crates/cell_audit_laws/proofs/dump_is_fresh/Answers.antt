use Rattle.cell_audit_laws.proofs.Contents.{dump_fresh}
use Rattle.cell_audit_laws.proofs.dump_is_fresh.Goals as goal

pub returns : goal.returns
returns c = dump_fresh
