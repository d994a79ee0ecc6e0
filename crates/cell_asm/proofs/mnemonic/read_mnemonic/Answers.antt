use Rattle.cell_asm.proofs.Facts.{refl, ◌∙◌}
use Rattle.cell_asm.proofs.mnemonic.read_mnemonic.Goals as goal

pub returns : goal.returns
returns c = c.mnemonic_in.ensures ∙ refl
