-- What the reading of a dump makes of its audit.
use Rattle.std.proofs.Common.{◌≡◌, sym, ◌∙◌, ap, ℕ, List, Option, Some, None, Ok, Err}
use Rattle.std.specs.Prelude.{Result}
use Rattle.cell_world.specs.Gather.{Source}
use Rattle.cell_audit.specs.declared.fail.AuditFail.{AuditFail}
use Rattle.cell_audit.specs.declared.fail.AuditFail.TheVariants.{Unreadable}
use Rattle.cell_audit.specs.Audits.{Audit, audit_of, found, readable, reading_of, ◌>>=◌}
use Rattle.cell_audit.specs.Dumps.{Row, Text, dump_in, rows_in}

stopped : {Y : Type 0} (rows : Result (List Row) ℕ) (f : List Row → Audit Y) (fault : AuditFail) → readable rows ≡ Err fault → (readable rows >>= f) ≡ Err fault
stopped (Ok rows) f fault e = absurd cc
stopped (Err line) f fault e = let same : Unreadable line ≡ fault = cc in ap Err same

stops : {Y : Type 0} (o : Option (List Text)) (f : List Text → List Row → Audit Y) (fault : AuditFail) → (found o (Unreadable 0) >>= (λ texts. readable (rows_in texts))) ≡ Err fault
    → (found o (Unreadable 0) >>= (λ texts. readable (rows_in texts) >>= f texts)) ≡ Err fault
stops None f fault e = let same : Unreadable 0 ≡ fault = cc in ap Err same
stops (Some texts) f fault e = stopped (rows_in texts) (f texts) fault e

-- a dump that can't be read has that fault
pub reading_fails : (dump : List ℕ) (sources : List Source) (fault : AuditFail) → reading_of dump ≡ Err fault → audit_of dump sources ≡ Err fault
reading_fails dump sources fault e = stops (dump_in dump) _ fault e

read_is : (r : Result (List Row) ℕ) (rows : List Row) → readable r ≡ Ok rows → r ≡ Ok rows
read_is (Ok rs) rows e = cc
read_is (Err line) rows e = absurd cc

-- the rows of one that can are those of its lines
pub reading_goes : (dump : List ℕ) (texts : List Text) (rows : List Row) → dump_in dump ≡ Some texts → reading_of dump ≡ Ok rows → rows_in texts ≡ Ok rows
reading_goes dump texts rows e r =
    read_is (rows_in texts) rows (sym (ap (λ (o : Option (List Text)). found o (Unreadable 0) >>= (λ ts. readable (rows_in ts))) e) ∙ r)
