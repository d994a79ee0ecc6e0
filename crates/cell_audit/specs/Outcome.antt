-- How what code answers stands to the audit.
--     FailsBy fault said                the fault is that one; want of memory says nothing
--     Agrees said result                the code answers what the audit says
--     GoesOn file rows text reader      the text has a row behind those before it, and the reader has what all of them say
--     StopsAt rows text fault           it has none, and the fault is that of its line
use Rattle.std.specs.Prelude.{◌≡◌, ℕ, List, [], ◌∷◌, ◌++◌, Some, None, Result, Ok, Err}
use Rattle.cell_audit.specs.declared.fail.AuditFail.{AuditFail}
use Rattle.cell_audit.specs.declared.fail.AuditFail.TheVariants.{OutOfMemory, Unreadable}
use Rattle.cell_audit.specs.declared.read.Reader.{Reader}
use Rattle.cell_audit.specs.Audits.{Audit}
use Rattle.cell_audit.specs.Dumps.{Row, Text, row_after}
use Rattle.cell_audit.specs.Reader.{IsKept}

abbrev pub FailsBy : {X : Type 0} → AuditFail → Audit X → Type 0
FailsBy OutOfMemory said = Unit {0}
FailsBy fault said = said ≡ Err fault

abbrev pub Agrees : Audit (Unit {0}) → Result (Unit {0}) AuditFail → Type 0
Agrees said (Ok done) = said ≡ Ok tt
Agrees said (Err fault) = FailsBy fault said

pub record GoesOn (file : List ℕ) (rows : List Row) (text : Text) (reader : Reader) : Type 0 where
  pub row : Row
  pub reads : row_after rows text ≡ Some row
  pub kept : IsKept file (rows ++ row ∷ []) reader.known reader.written

abbrev pub StopsAt : List Row → Text → AuditFail → Type 0
StopsAt rows text OutOfMemory = Unit {0}
StopsAt rows text fault = (row_after rows text ≡ None) × (fault ≡ Unreadable text.0)
