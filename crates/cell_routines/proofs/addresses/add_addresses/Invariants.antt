use Rattle.std.proofs.Common.{◌++◌, take}
use Rattle.cell_xfer.specs.Named.{AnswersAs}
use Rattle.cell_routines.specs.Placed.{addresses_by}
use Rattle.cell_routines.proofs.addresses.add_addresses.Given as goal

-- the addresses of the names so far
abbrev pub invariant-loop-place : goal.invariant-loop-place
invariant-loop-place l = AnswersAs l.table (l.fn.table ++ addresses_by l.cell (take l.place l.names))
