-- Exit statuses.
use Rattle.std.specs.Prelude.{ℕ}
use Rattle.cell_verdict.specs.declared.status.AuditStatus.{AuditStatus}
use Rattle.cell_verdict.specs.declared.status.AuditStatus.TheVariants.{Clean, Fault, Usage, NoDump, TooLarge, ReadFault, WriteFault, OutOfMemory}

abbrev pub exit_of : AuditStatus → ℕ
exit_of Clean = 0
exit_of Fault = 1
exit_of Usage = 2
exit_of NoDump = 2
exit_of (TooLarge what limit) = 2
exit_of ReadFault = 3
exit_of WriteFault = 4
exit_of OutOfMemory = 5
