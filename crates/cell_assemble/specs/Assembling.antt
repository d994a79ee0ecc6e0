-- What a call writes, and how it ends.
--     assembling_of words files        text and status of a call with these words that meets these files
--     Writes assembling status old new how an answer and what was written stand to them
use Rattle.std.specs.Prelude.{◌≡◌, ◌⊎◌, ℕ, List, [], ◌∷◌, map, if◌then◌else◌, bytes_eq, Option, Result, Ok, Err}
use Rattle.std.specs.List.{list_any}
use Rattle.std.specs.Io.KnownBytes.{Appends}
use Rattle.cell_io.specs.Files.{File, folder, bytes_named}
use Rattle.cell_io.specs.Written.{AppendsPartOf}
use Rattle.cell_io.specs.Within.{within, ◌>>=◌}
use Rattle.cell_num.specs.Limits.{max_source_bytes}
use Rattle.cell_asm.specs.declared.kind.AsmKind.{AsmKind}
use Rattle.cell_assemble.specs.declared.status.AsStatus.{AsStatus}
use Rattle.cell_assemble.specs.declared.status.AsStatus.TheVariants as statuses
use Rattle.cell_assemble.specs.declared.status.Refusal.{Refusal}
use Rattle.cell_assemble.specs.declared.status.Refusal.TheVariants.{TooManyNames, NoSource, TooLong, Fault}
use Rattle.cell_assemble.specs.SourceImage.{image_of_source}
use Rattle.cell_assemble.specs.RefusalLine.{usage_line, refusal_line}

-- the bytes of the source, where its name is among these: at most `max_source_bytes`
abbrev pub source_among : List ℕ → List File → List (List ℕ) → Result (List ℕ) Refusal
source_among source files names = if list_any (bytes_eq source) names then within max_source_bytes TooLong (bytes_named source files) else Err NoSource

-- those of the source of that name in a folder, which has at most 65536 names
unfoldable pub source_in : List ℕ → List File → Result (List ℕ) Refusal
source_in source files = within 65536 TooManyNames (map (λ f. f.name) files) >>= source_among source files

abbrev pub image_unless : Result (List ℕ) (ℕ × AsmKind) → Result (List ℕ) Refusal
image_unless (Ok bytes) = Ok bytes
image_unless (Err fault) = Err (Fault fault.0 fault.1)

-- the image of the object that a source is assembled to
abbrev pub object_of : List ℕ → Result (List ℕ) Refusal
object_of text = image_unless (image_of_source text)

-- the image of the object of the source of that name in a folder, or the first refusal
unfoldable pub object_in : List ℕ → List File → Result (List ℕ) Refusal
object_in source files = source_in source files >>= object_of

pub record Assembling : Type 0 where
  pub text : List ℕ
  pub status : AsStatus

abbrev pub status_of : Refusal → AsStatus
status_of TooManyNames = statuses.TooManyNames
status_of NoSource = statuses.NoSource
status_of TooLong = statuses.TooLong
status_of (Fault line kind) = statuses.Fault line kind

-- an object is written, or the line of a refusal
abbrev pub done : List ℕ → Assembling
done object = record { text = object; status = statuses.Done }

abbrev pub refused : List ℕ → Refusal → Assembling
refused source refusal = record { text = refusal_line source refusal; status = status_of refusal }

abbrev pub assembling : List ℕ → Result (List ℕ) Refusal → Assembling
assembling source (Ok object) = done object
assembling source (Err refusal) = refused source refusal

-- how the program is called
abbrev pub usage : Assembling
usage = record { text = usage_line; status = statuses.Usage }

-- two words are the folder and the source in it
abbrev pub assembling_of : List (List ℕ) → List File → Assembling
assembling_of (dir ∷ source ∷ []) files = assembling source (object_in source (folder dir files))
assembling_of _ files = usage

-- the call was cut off by a fault or by want of memory
abbrev pub IsCut : AsStatus → Type 0
IsCut statuses.ReadFault = Unit {0}
IsCut statuses.WriteFault = Unit {0}
IsCut statuses.OutOfMemory = Unit {0}
IsCut _ = ⊥

-- status and bytes are those; or the call was cut off, and the bytes are a front of the text
abbrev pub Writes : Assembling → AsStatus → Option (List ℕ) → Option (List ℕ) → Type 0
Writes said status old new = ((status ≡ said.status) × Appends old new said.text) ⊎ (IsCut status × AppendsPartOf old new said.text)
