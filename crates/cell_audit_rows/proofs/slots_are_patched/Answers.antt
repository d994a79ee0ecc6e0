use Rattle.std.proofs.Common.{refl}
use Rattle.cell_isa.specs.Instruction.{decode}
use Rattle.cell_audit_rows.proofs.slots_are_patched.Goals as goal

pub returns : goal.returns
unfolding decode
returns c = refl
