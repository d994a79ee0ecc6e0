-- The lines that an audit writes.
use Rattle.std.specs.Prelude.{ℕ, List, [], ◌∷◌, ◌++◌, codes}
use Rattle.std.specs.Fmt.{decimal}
use Rattle.cell_print.specs.Lines.{line}
use Rattle.cell_audit.specs.declared.fail.AuditFail.{AuditFail}
use Rattle.cell_audit.specs.declared.fail.AuditFail.TheVariants.{Unreadable, NoObject, Misplaced, Unlinked, Differs, OutOfMemory}
use Rattle.cell_verdict.specs.declared.status.AuditWhat.{AuditWhat}
use Rattle.cell_verdict.specs.declared.status.AuditWhat.TheVariants.{Names, Files, DumpBytes, FileBytes, AllBytes}
use Rattle.cell_verdict.specs.declared.status.Reason.{Reason}
use Rattle.cell_verdict.specs.declared.status.Reason.TheVariants.{NoDump, TooLarge}

-- how the program is called
abbrev pub usage_line : List ℕ
usage_line = line (codes "usage: cellaudit DIR DUMP" ∷ [])

-- of a dump without a fault
abbrev pub clean_line : List ℕ
clean_line = line (codes "ok" ∷ [])

abbrev pub fault_lines : AuditFail → List ℕ
fault_lines (Unreadable n) = line (codes "A1 unreadable line " ∷ decimal n ∷ [])
fault_lines (NoObject n) = line (codes "A2 no-object line " ∷ decimal n ∷ [])
fault_lines (Misplaced n) = line (codes "A3 misplaced line " ∷ decimal n ∷ [])
fault_lines (Unlinked n entry) = line (codes "A4 unlinked line " ∷ decimal n ∷ codes " entry " ∷ decimal entry ∷ [])
fault_lines (Differs n held fresh) =
    (line (codes "A5 differs line " ∷ decimal n ∷ []) ++ line (codes "  held " ∷ held ∷ [])) ++ line (codes "  fresh " ∷ fresh ∷ [])
-- no dump has this one
fault_lines OutOfMemory = []

abbrev pub what_word : AuditWhat → List ℕ
what_word Names = codes "names"
what_word Files = codes "files"
what_word DumpBytes = codes "dump-bytes"
what_word FileBytes = codes "file-bytes"
what_word AllBytes = codes "all-bytes"

-- of a call that audits nothing, where the dump has that name
abbrev pub reason_line : List ℕ → Reason → List ℕ
reason_line dump NoDump = line (codes "no dump " ∷ dump ∷ [])
reason_line dump (TooLarge what limit) = line (codes "too large: " ∷ what_word what ∷ codes " limit " ∷ decimal limit ∷ [])
