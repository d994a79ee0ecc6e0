use Rattle.cell_asm.proofs.Facts.{take, Locals}
use Rattle.cell_asm.proofs.symbol.Symbols.add_labels.Given as goal

-- the symbols of the labels so far
abbrev pub invariant-loop-label : goal.invariant-loop-label
invariant-loop-label l = Locals l.self l.kept (take l.label-index l.kept.labels.items)
