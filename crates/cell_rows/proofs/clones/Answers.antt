use Rattle.std.proofs.Common.{refl}
use Rattle.cell_isa.specs.Instruction.{decode}
use Rattle.cell_rows.proofs.clones.Goals as goal

pub returns : goal.returns
unfolding decode
returns c = refl
