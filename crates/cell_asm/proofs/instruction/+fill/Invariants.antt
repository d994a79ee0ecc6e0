use Rattle.cell_asm.proofs.Facts.{length}
use Rattle.cell_asm.proofs.instruction.+fill.Given as goal

abbrev pub decreases-fill : goal.decreases-fill
decreases-fill l = length l.slots.now
