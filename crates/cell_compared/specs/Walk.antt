-- Lines of a dump against fresh ones, one after another.
--     walk texts lines           the texts that are left behind those of these lines, or the first difference
--     ended texts                nothing is left, or what is left differs
--     Walks old lines new r      that, as code answers it
use Rattle.std.specs.Prelude.{◌≡◌, List, [], ◌∷◌, Result, Ok, Err, drop, if◌then◌else◌}
use Rattle.cell_num.specs.Lists.{equals}
use Rattle.cell_dumped.specs.Texts.{line_text}
use Rattle.cell_world.specs.declared.line.DumpLine.{DumpLine}
use Rattle.cell_audit.specs.Audits.{Audit}
use Rattle.cell_audit.specs.Dumps.{Text}
use Rattle.cell_audit.specs.Outcome.{FailsBy}
use Rattle.cell_audit.specs.declared.fail.AuditFail.{AuditFail}
use Rattle.cell_audit.specs.declared.fail.AuditFail.TheVariants.{Differs}

abbrev pub walk : List Text → List DumpLine → Audit (List Text)
walk [] lines = Ok []
walk (t ∷ texts) [] = Ok (t ∷ texts)
walk (t ∷ texts) (l ∷ lines) =
    if equals (drop 2 t.1) (line_text l) then walk texts lines else Err (Differs t.0 (drop 2 t.1) (line_text l))

abbrev pub ended : List Text → Audit (Unit {0})
ended [] = Ok tt
ended (t ∷ texts) = Err (Differs t.0 (drop 2 t.1) [])

abbrev pub Walks : List Text → List DumpLine → List Text → Result (Unit {0}) AuditFail → Type 0
Walks old lines new (Ok done) = walk old lines ≡ Ok new
Walks old lines new (Err fault) = FailsBy fault (walk old lines)
