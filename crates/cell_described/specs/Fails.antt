-- What the faults of the cells are among those of an audit.
use Rattle.cell_audit.specs.declared.fail.AuditFail.{AuditFail}
use Rattle.cell_audit.specs.declared.fail.AuditFail.TheVariants as audits
use Rattle.cell_described.specs.declared.fail.DescribeFail.{DescribeFail}
use Rattle.cell_described.specs.declared.fail.DescribeFail.TheVariants.{NoObject, Misplaced, OutOfMemory}

abbrev pub audit_fail : DescribeFail → AuditFail
audit_fail (NoObject line) = audits.NoObject line
audit_fail (Misplaced line) = audits.Misplaced line
audit_fail OutOfMemory = audits.OutOfMemory
