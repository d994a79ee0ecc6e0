-- Exit statuses.
use Rattle.std.specs.Prelude.{ℕ}
use Rattle.cell_assemble.specs.declared.status.AsStatus.{AsStatus}
use Rattle.cell_assemble.specs.declared.status.AsStatus.TheVariants.{Done, Usage, NoSource, TooManyNames, TooLong, Fault, ReadFault, WriteFault, OutOfMemory}

abbrev pub exit_of : AsStatus → ℕ
exit_of Done = 0
exit_of Usage = 2
exit_of NoSource = 2
exit_of TooManyNames = 2
exit_of TooLong = 2
exit_of (Fault line kind) = 2
exit_of ReadFault = 3
exit_of WriteFault = 4
exit_of OutOfMemory = 5
