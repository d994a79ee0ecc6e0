use Rattle.cell_asm.proofs.Facts.{refl, ◌∙◌}
use Rattle.cell_asm.proofs.operand.read_modifier.Goals as goal

pub returns : goal.returns
returns c = c.row_in.ensures ∙ refl
