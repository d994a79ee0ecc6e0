-- What a call writes, and how it ends.
--     verdict_in dump files            nothing where the dump of that name is clean, or its first fault; or why nothing is audited
--     judging_of words files           text and status of a call with these words that meets these files
--     Writes said status old new       how an answer and what was written stand to them
use Rattle.std.specs.Prelude.{◌≡◌, ◌⊎◌, ℕ, List, [], ◌∷◌, map, Option, Some, None, Result, Ok, Err}
use Rattle.std.specs.Io.KnownBytes.{Appends}
use Rattle.cell_num.specs.Limits.{max_names, max_files, max_file_bytes, max_all_bytes, max_dump_bytes}
use Rattle.cell_io.specs.Files.{File, folder}
use Rattle.cell_io.specs.Written.{AppendsPartOf}
use Rattle.cell_io.specs.Within.{◌>>=◌}
use Rattle.cell_world.specs.Gather.{source_of}
use Rattle.cell_input.specs.declared.folder.Folder.{Folder}
use Rattle.cell_input.specs.declared.folder.Refusals.{Refusals}
use Rattle.cell_input.specs.Taking.{folder_from}
use Rattle.cell_audit.specs.declared.fail.AuditFail.{AuditFail}
use Rattle.cell_audit.specs.Audits.{Audit, audit_of}
use Rattle.cell_verdict.specs.declared.status.AuditStatus.{AuditStatus}
use Rattle.cell_verdict.specs.declared.status.AuditStatus.TheVariants as statuses
use Rattle.cell_verdict.specs.declared.status.AuditWhat.TheVariants.{Names, Files, DumpBytes, FileBytes, AllBytes}
use Rattle.cell_verdict.specs.declared.status.Reason.{Reason}
use Rattle.cell_verdict.specs.declared.status.Reason.TheVariants.{NoDump, TooLarge}
use Rattle.cell_verdict.specs.Lines.{clean_line, fault_lines, reason_line, usage_line}

-- what refuses an audit, each for its cause
abbrev pub refusals : Refusals Reason
refusals =
    record {
      absent = NoDump;
      names = TooLarge Names max_names;
      files = TooLarge Files max_files;
      file_bytes = TooLarge FileBytes max_file_bytes;
      all_bytes = TooLarge AllBytes max_all_bytes;
      text_bytes = TooLarge DumpBytes max_dump_bytes;
    }

abbrev pub fault_of : Audit (Unit {0}) → Option AuditFail
fault_of (Ok clean) = None
fault_of (Err fault) = Some fault

-- the dump against the object files
abbrev pub verdict_of : Folder → Option AuditFail
verdict_of folder = fault_of (audit_of folder.text (map source_of folder.files))

unfoldable pub verdict_in : List ℕ → List File → Result (Option AuditFail) Reason
verdict_in dump files = folder_from refusals max_dump_bytes dump files >>= λ folder. Ok (verdict_of folder)

pub record Judging : Type 0 where
  pub text : List ℕ
  pub status : AuditStatus

abbrev pub status_of : Reason → AuditStatus
status_of NoDump = statuses.NoDump
status_of (TooLarge what limit) = statuses.TooLarge what limit

abbrev pub judged : Option AuditFail → Judging
judged None = record { text = clean_line; status = statuses.Clean }
judged (Some fault) = record { text = fault_lines fault; status = statuses.Fault }

abbrev pub refused : List ℕ → Reason → Judging
refused dump reason = record { text = reason_line dump reason; status = status_of reason }

abbrev pub judging : List ℕ → Result (Option AuditFail) Reason → Judging
judging dump (Ok verdict) = judged verdict
judging dump (Err reason) = refused dump reason

abbrev pub usage : Judging
usage = record { text = usage_line; status = statuses.Usage }

-- two words are the folder and the dump in it
abbrev pub judging_of : List (List ℕ) → List File → Judging
judging_of (dir ∷ dump ∷ []) files = judging dump (verdict_in dump (folder dir files))
judging_of words files = usage

-- the call was cut off by a fault or by want of memory
abbrev pub IsCut : AuditStatus → Type 0
IsCut statuses.ReadFault = Unit {0}
IsCut statuses.WriteFault = Unit {0}
IsCut statuses.OutOfMemory = Unit {0}
IsCut _ = ⊥

-- status and bytes are those; or the call was cut off, and the bytes are a front of the text
abbrev pub Writes : Judging → AuditStatus → Option (List ℕ) → Option (List ℕ) → Type 0
Writes said status old new = ((status ≡ said.status) × Appends old new said.text) ⊎ (IsCut status × AppendsPartOf old new said.text)
