-- The audit of a dump.
--     reading_of dump           the rows of the dump, or the fault of the first line that can't be read
--     audit_of dump sources     whether the dump is clean, or the first fault: first what can't be read, then a cell without an
--                               object, what can't stand where it is said to, what can't be linked, and what differs
--     IsReading dump sources texts rows     none of these but the last holds of it
use Rattle.std.specs.Prelude.{◌≡◌, map, ℕ, List, [], ◌∷◌, Option, Some, None, Result, Ok, Err, drop, if◌then◌else◌}
use Rattle.cell_num.specs.Lists.{equals}
use Rattle.cell_world.specs.Gather.{Source}
use Rattle.cell_dumped.specs.Texts.{line_text}
use Rattle.cell_world.specs.declared.line.DumpLine.{DumpLine}
use Rattle.cell_audit.specs.declared.fail.AuditFail.{AuditFail}
use Rattle.cell_audit.specs.declared.fail.AuditFail.TheVariants.{Unreadable, NoObject, Misplaced, Unlinked, Differs}
use Rattle.cell_audit.specs.Dumps.{Text, Row, dump_in, rows_in, lines_of}
use Rattle.cell_audit.specs.Described.{described}
use Rattle.cell_audit.specs.Placing.{first_lacking, first_misplaced}
use Rattle.cell_audit.specs.Linking.{first_unlinked, fresh_lines}

abbrev pub Audit : Type 0 → Type 0
Audit X = Result X AuditFail

-- `x ← r` in a `do` block: go on with the value, or stop with the fault
infixl 10 ◌>>=◌
abbrev pub ◌>>=◌ : {X Y : Type 0} → Audit X → (X → Audit Y) → Audit Y
Ok x >>= f = f x
Err fault >>= f = Err fault

infixl 10 ◌>>◌
abbrev pub ◌>>◌ : {X Y : Type 0} → Audit X → Audit Y → Audit Y
Ok x >> next = next
Err fault >> next = Err fault

abbrev pub found : {X : Type 0} → Option X → AuditFail → Audit X
found None fault = Err fault
found (Some x) fault = Ok x

abbrev pub readable : {X : Type 0} → Result X ℕ → Audit X
readable (Ok x) = Ok x
readable (Err line) = Err (Unreadable line)

abbrev pub refused_by : {X : Type 0} → (X → AuditFail) → Option X → Audit (Unit {0})
refused_by fault None = Ok tt
refused_by fault (Some x) = Err (fault x)

-- the first line whose text isn't that of the fresh line at its place; both without the two spaces
abbrev pub first_difference : List Text → List DumpLine → Option AuditFail
first_difference [] lines = None
first_difference (t ∷ texts) [] = Some (Differs t.0 (drop 2 t.1) [])
first_difference (t ∷ texts) (l ∷ lines) =
    if equals (drop 2 t.1) (line_text l) then first_difference texts lines else Some (Differs t.0 (drop 2 t.1) (line_text l))

-- the rows of the dump
abbrev pub reading_of : List ℕ → Audit (List Row)
reading_of dump = do
  texts ← found (dump_in dump) (Unreadable 0)
  readable (rows_in texts)

abbrev pub audit_of : List ℕ → List Source → Audit (Unit {0})
audit_of dump sources = do
  texts ← found (dump_in dump) (Unreadable 0)
  rows ← readable (rows_in texts)
  refused_by (λ line. NoObject line) (first_lacking sources rows)
  refused_by (λ line. Misplaced line) (first_misplaced sources rows)
  refused_by (λ at. Unlinked at.0 at.1) (first_unlinked sources (lines_of rows) (described sources (lines_of rows)) rows)
  refused_by (λ fault. fault) (first_difference texts (fresh_lines (lines_of rows) (described sources (lines_of rows))))

-- the dump has a reading: its lines, and what they say
pub record IsReading (dump : List ℕ) (sources : List Source) (texts : List Text) (rows : List Row) : Type 0 where
  pub texts_are : dump_in dump ≡ Some texts
  pub rows_are : rows_in texts ≡ Ok rows
  pub objects : first_lacking sources rows ≡ None
  pub places : first_misplaced sources rows ≡ None
  pub links : first_unlinked sources (lines_of rows) (described sources (lines_of rows)) rows ≡ None

-- the texts of the lines, without the two spaces, are those of the machine linked anew
abbrev pub IsFresh : List Source → List Text → List Row → Type 0
IsFresh sources texts rows =
    map (λ t. drop 2 t.1) texts ≡ map line_text (fresh_lines (lines_of rows) (described sources (lines_of rows)))
