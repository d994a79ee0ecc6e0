use Rattle.cell_asm.proofs.AssembledFits.{inside}
use Rattle.cell_asm.proofs.source.place_line.Goals as goal

pub place-requires-clause-inside : goal.place-requires-clause-inside
place-requires-clause-inside c = inside c.args.text.now c.in_ok-line.line c.in_ok-line.ensures
