-- The lines of a dump that are left.
use Rattle.std.specs.Prelude.{◌≡◌, ℕ, List, [], ◌∷◌, Option, Some, None, drop}
use Rattle.cell_audit.specs.Dumps.{Text}
use Rattle.cell_audit.specs.Within.{texts_of}
use Rattle.cell_audit.specs.declared.fail.AuditFail.{AuditFail}
use Rattle.cell_audit.specs.declared.fail.AuditFail.TheVariants.{Differs, OutOfMemory}
use Rattle.cell_compared.specs.declared.cursor.Cursor.{Cursor}
use Rattle.cell_compared.specs.declared.comparing.Held.{Held}

abbrev pub left : Cursor → List Text
left c = elim c.rest [ None ↦ [] | Some lines ↦ texts_of c.file.now lines ]

abbrev pub text_held : Held → Text
text_held h = (h.number, h.text.now)

-- the line that stood first, if one did
abbrev pub Steps : List Text → List Text → Option Held → Type 0
Steps old new None = (old ≡ []) × (new ≡ [])
Steps old new (Some h) = old ≡ text_held h ∷ new

-- the fault is that of a line that differs from that text, where it isn't for want of memory
abbrev pub IsDifference : Held → List ℕ → AuditFail → Type 0
IsDifference h fresh OutOfMemory = Unit {0}
IsDifference h fresh fault = fault ≡ Differs h.number (drop 2 h.text.now) fresh
