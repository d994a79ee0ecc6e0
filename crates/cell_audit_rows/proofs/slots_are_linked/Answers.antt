use Rattle.std.proofs.Common.{refl}
use Rattle.cell_audit_rows.proofs.slots_are_linked.Goals as goal

pub returns : goal.returns
returns c = refl
