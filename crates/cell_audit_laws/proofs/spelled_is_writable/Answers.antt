use Rattle.cell_audit_laws.proofs.Spelled.{spelled_writable}
use Rattle.cell_audit_laws.proofs.spelled_is_writable.Goals as goal

pub returns : goal.returns
returns c = spelled_writable
