-- The object files of a folder and the text of a file beside them, and what a run works on.
--     folder_from why limit name files     the object files and that text, or the first refusal
--     input_from script files              the object files and the commands, or the first refusal
use Rattle.std.specs.Prelude.{ℕ, ◌+◌, nat_lt, List, [], ◌∷◌, length, map, if◌then◌else◌, bytes_eq, Result, Ok, Err}
use Rattle.std.specs.List.{list_any}
use Rattle.cell_num.specs.Limits.{max_names, max_files, max_file_bytes, max_all_bytes, max_script_bytes}
use Rattle.cell_io.specs.Files.{File as HostFile, bytes_named}
use Rattle.cell_io.specs.Within.{within, ◌>>=◌}
use Rattle.cell_world.specs.declared.file.File.{File}
use Rattle.cell_script.specs.declared.line.Line.{Line}
use Rattle.cell_script.specs.Script.{script_of}
use Rattle.cell_input.specs.declared.folder.Folder.{Folder}
use Rattle.cell_input.specs.declared.folder.Refusals.{Refusals}
use Rattle.cell_input.specs.declared.reason.What.TheVariants.{Names, Files, FileBytes, AllBytes, ScriptBytes}
use Rattle.cell_input.specs.declared.reason.Reason.{Reason}
use Rattle.cell_input.specs.declared.reason.Reason.TheVariants.{NoScript, BadScript, TooLarge}
use Rattle.cell_input.specs.declared.take.Input.{Input}
use Rattle.cell_input.specs.Objects.{objects_of}

-- the object files among these names, and that name among them too
abbrev pub objects_among : {R : Type 0} → Refusals R → List ℕ → List (List ℕ) → Result (List (List ℕ)) R
objects_among why name names = if list_any (bytes_eq name) names then within max_files why.files (objects_of names) else Err why.absent

-- the object files of a folder with that file
unfoldable pub listing : {R : Type 0} → Refusals R → List ℕ → List (List ℕ) → Result (List (List ℕ)) R
listing why name names = within max_names why.names names >>= objects_among why name

-- so many bytes, with those of the files before
abbrev pub within_all : {R : Type 0} → Refusals R → ℕ → List ℕ → Result (List ℕ) R
within_all why total bytes = if nat_lt max_all_bytes (total + length bytes) then Err why.all_bytes else Ok bytes

-- the bytes of one more file
unfoldable pub bytes_after : {R : Type 0} → Refusals R → ℕ → List ℕ → Result (List ℕ) R
bytes_after why total bytes = within max_file_bytes why.file_bytes bytes >>= within_all why total

abbrev pub file_after : {R : Type 0} → Refusals R → ℕ → List ℕ → List HostFile → Result File R
file_after why total name files = bytes_after why total (bytes_named name files) >>= λ bytes. Ok (record { name = name; bytes = bytes })

-- the files of these names in order
abbrev pub files_after : {R : Type 0} → Refusals R → ℕ → List (List ℕ) → List HostFile → Result (List File) R
files_after why total [] files = Ok []
files_after why total (name ∷ names) files =
    file_after why total name files >>= λ file.
    files_after why (total + length file.bytes) names files >>= λ later.
    Ok (file ∷ later)

-- the object files, and the bytes of the file of that name: at most so many
unfoldable pub folder_from : {R : Type 0} → Refusals R → ℕ → List ℕ → List HostFile → Result Folder R
folder_from why limit name files =
    listing why name (map (λ f. f.name) files) >>= λ objects.
    within limit why.text_bytes (bytes_named name files) >>= λ text.
    files_after why 0 objects files >>= λ taken.
    Ok (record { text = text; files = taken })

-- what refuses a run
abbrev pub run_refusals : Refusals Reason
run_refusals =
    record {
      absent = NoScript;
      names = TooLarge Names max_names;
      files = TooLarge Files max_files;
      file_bytes = TooLarge FileBytes max_file_bytes;
      all_bytes = TooLarge AllBytes max_all_bytes;
      text_bytes = TooLarge ScriptBytes max_script_bytes;
    }

abbrev pub readable : Result (List Line) ℕ → Result (List Line) Reason
readable (Ok lines) = Ok lines
readable (Err n) = Err (BadScript n)

unfoldable pub commands_of : List ℕ → Result (List Line) Reason
commands_of text = readable (script_of text)

-- the commands of the text, and the files
abbrev pub input_of : Folder → Result Input Reason
input_of folder = commands_of folder.text >>= λ lines. Ok (record { files = folder.files; script = lines })

-- what a run in a folder works on
unfoldable pub input_from : List ℕ → List HostFile → Result Input Reason
input_from script files = folder_from run_refusals max_script_bytes script files >>= input_of
