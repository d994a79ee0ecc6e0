-- Exit statuses.
use Rattle.std.specs.Prelude.{ℕ}
use Rattle.cell_run.specs.declared.status.Status.{Status}
use Rattle.cell_run.specs.declared.status.Status.TheVariants.{Done, SomeRefused, Usage, NoScript, BadScript, TooLarge, ReadFault, WriteFault, OutOfMemory}

abbrev pub exit_of : Status → ℕ
exit_of Done = 0
exit_of SomeRefused = 1
exit_of Usage = 2
exit_of NoScript = 2
exit_of (BadScript line) = 2
exit_of (TooLarge what limit) = 2
exit_of ReadFault = 3
exit_of WriteFault = 4
exit_of OutOfMemory = 5
