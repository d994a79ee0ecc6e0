use Rattle.std.proofs.Common.{take}
use Rattle.cell_xfer.specs.Named.{AnswersAs}
use Rattle.cell_change.specs.Transferring.{old_rows}
use Rattle.cell_change.proofs.transferring.old_addresses.Given as goal

-- the cells so far
abbrev pub invariant-loop-cell : goal.invariant-loop-cell
invariant-loop-cell l = AnswersAs l.table (old_rows l.machine (take l.cell-index l.old))
