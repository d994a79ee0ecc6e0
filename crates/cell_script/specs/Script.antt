-- The reading of a script.
--     reading_of line      what a line says
--     script_of text       the commands of a script, or the number of the first line without a reading
--     is_said command      a line of a script can say the command: a new namespace's name is spelled as such, and a swap names a cell at least
use Rattle.std.specs.Prelude.{◌≡◌, ℕ, ◌+◌, Bool, true, false, nat_lt, length, ◌==◌, List, [], ◌∷◌, Option, Some, None, if◌then◌else◌, Ok, Err}
use Rattle.std.specs.declared.result.Result.{Result}
use Rattle.std.specs.List.{list_all}
use Rattle.cell_text.specs.Text.{lines_in, words_of}
use Rattle.cell_world.specs.declared.command.Command.{Command}
use Rattle.cell_world.specs.declared.command.Command.TheVariants.{Clone, Ns, Swap}
use Rattle.cell_script.specs.Grammar.{forms, command_in, is_name}
use Rattle.cell_script.specs.declared.line.Line.{Line}
use Rattle.cell_script.specs.declared.command.Reading.{Reading}
use Rattle.cell_script.specs.declared.command.Reading.TheVariants.{Nothing, Does, Bad}
use Rattle.cell_script.specs.declared.read.ScriptFail.{ScriptFail}
use Rattle.cell_script.specs.declared.read.ScriptFail.TheVariants.{Bad as BadLine, OutOfMemory}

abbrev pub is_comment : List ℕ → Bool
is_comment [] = false
is_comment (b ∷ bs) = b == 35

abbrev pub does : Option Command → Reading
does None = Bad
does (Some command) = Does command

-- what the words of a line say: nothing where there are none, and in a comment
abbrev pub reading_in : List (List ℕ) → Reading
reading_in [] = Nothing
reading_in (word ∷ arguments) = if is_comment word then Nothing else does (command_in forms word arguments)

abbrev pub reading_of : List ℕ → Reading
reading_of line = reading_in (words_of line)

-- a line before the commands of the later lines
abbrev pub add_line : ℕ → Reading → Result (List Line) ℕ → Result (List Line) ℕ
add_line n Nothing later = later
add_line n Bad later = Err n
add_line n (Does command) (Ok lines) = Ok (record { number = n; command = command } ∷ lines)
add_line n (Does command) (Err m) = Err m

-- the commands of the lines from number n on, or the first line without a reading
abbrev pub script_from : ℕ → List (List ℕ) → Result (List Line) ℕ
script_from n [] = Ok []
script_from n (line ∷ lines) = add_line n (reading_of line) (script_from (n + 1) lines)

abbrev pub script_of : List ℕ → Result (List Line) ℕ
script_of text = script_from 1 (lines_in text)

-- the answer is what the script says, or want of memory
abbrev pub Reads : Result (List Line) ScriptFail → Result (List Line) ℕ → Type 0
Reads (Ok lines) script = script ≡ Ok lines
Reads (Err (BadLine n)) script = script ≡ Err n
Reads (Err OutOfMemory) script = Unit {0}

abbrev pub is_said : Command → Bool
is_said (Ns fresh parent) = is_name fresh
is_said (Clone ns fresh) = is_name fresh
is_said (Swap items reexport strict routines budget) = nat_lt 0 (length items)
is_said _ = true

abbrev pub are_said : List Line → Bool
are_said lines = list_all (λ line. is_said line.command) lines
