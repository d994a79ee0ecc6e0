use Rattle.std.proofs.Common.{take}
use Rattle.cell_xfer.specs.Named.{AnswersAs}
use Rattle.cell_change.specs.Transferring.{new_rows}
use Rattle.cell_change.proofs.transferring.new_addresses.Given as goal

-- the cells so far
abbrev pub invariant-loop-place : goal.invariant-loop-place
invariant-loop-place l = AnswersAs l.table (new_rows (take l.place l.staged.cells.items) (take l.place l.staged.names.items))
