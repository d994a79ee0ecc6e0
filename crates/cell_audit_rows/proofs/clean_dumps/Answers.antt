use Rattle.std.proofs.Common.{refl}
use Rattle.cell_audit_rows.proofs.clean_dumps.Goals as goal

pub returns-clause-first : goal.returns-clause-first
unfolding Rattle.std.specs.Fmt.digits
returns-clause-first c = refl

pub returns-clause-slots : goal.returns-clause-slots
unfolding Rattle.std.specs.Fmt.digits
returns-clause-slots c = refl

pub returns-clause-writable : goal.returns-clause-writable
unfolding Rattle.std.specs.Fmt.digits
returns-clause-writable c = refl
