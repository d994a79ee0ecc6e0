use Rattle.std.proofs.Common.{◌++◌, take}
use Rattle.cell_xfer.specs.Named.{AnswersAs}
use Rattle.cell_routines.specs.Begins.{definition_rows}
use Rattle.cell_routines.proofs.definitions.add_cell.Given as goal

-- the definitions among the symbols so far
abbrev pub invariant-loop-symbol : goal.invariant-loop-symbol
invariant-loop-symbol l = AnswersAs l.table (l.fn.table ++ definition_rows l.cell (take l.symbol-index l.symbol-items))
