use Rattle.std.proofs.Common.{refl}
use Rattle.cell_audit_rows.proofs.damaged_dumps.Goals as goal

pub returns : goal.returns
unfolding Rattle.std.specs.Fmt.digits
returns c = refl
