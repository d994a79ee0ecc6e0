use Rattle.std.proofs.Common.{take}
use Rattle.cell_xfer.specs.Named.{AnswersAs}
use Rattle.cell_routines.specs.Begins.{all_rows}
use Rattle.cell_routines.proofs.definitions.definitions_in.Given as goal

-- the definitions of the cells so far
abbrev pub invariant-loop-cell : goal.invariant-loop-cell
invariant-loop-cell l = AnswersAs l.table (all_rows (take l.cell-index l.cells))
