-- The run that the generator makes of a number of crates n and a seed. Crates are numbered from 1, and draws too.
--     drawn n seed k              the k-th draw: a crate
--     generated_files n seed      the object files: of each crate one that is loaded, and one that takes its place
--     generated_script n          each crate is loaded, then each is replaced, then what nobody keeps is removed
--     generated_lines n           the commands of that script
use Rattle.std.specs.Prelude.{ℕ, zero, suc, ◌+◌, ◌-◌, ◌*◌, ◌/◌, ◌%◌, ◌^◌, nat_le, false, List, [], ◌∷◌, ◌++◌, Result, Ok, Err, codes, flat_map, if◌then◌else◌, length, map}
use Rattle.std.specs.List.{concat, range_with_len}
use Rattle.std.specs.Fmt.{decimal}
use Rattle.cell_asm.specs.declared.kind.AsmKind.{AsmKind}
use Rattle.cell_assemble.specs.SourceImage.{image_of_source}
use Rattle.cell_num.specs.Limits.{max_file_bytes}
use Rattle.cell_world.specs.declared.command.Command.{Command}
use Rattle.cell_world.specs.declared.command.Command.TheVariants.{Load, Swap, Purge}
use Rattle.cell_world.specs.declared.file.File.{File}
use Rattle.cell_script.specs.Grammar.{usual_budget}
use Rattle.cell_script.specs.declared.line.Line.{Line}

-- a linear congruential generator, of which a draw takes the high bits
abbrev pub next_state : ℕ → ℕ
next_state x = (6364136223846793005 * x + 1442695040888963407) % 2 ^ 64

unfoldable pub state_after : ℕ → ℕ → ℕ
state_after seed zero = seed
state_after seed (suc k) = next_state (state_after seed k)

abbrev pub crate_drawn : ℕ → ℕ → ℕ
crate_drawn n state = 1 + (state / 2 ^ 33) % n

abbrev pub drawn : ℕ → ℕ → ℕ → ℕ
drawn n seed k = crate_drawn n (state_after seed k)

-- what a crate is called
abbrev pub crate_name : ℕ → List ℕ
crate_name i = codes "g" ++ decimal i

-- a label at the front of a section, which other objects may name
abbrev pub label_text : List ℕ → ℕ → List ℕ → List ℕ
label_text section i item =
    concat (section ∷ codes "\n.globl " ∷ crate_name i ∷ item ∷ codes "\n" ∷ crate_name i ∷ item ∷ codes ": " ∷ [])

-- a function of that body
abbrev pub function_text : ℕ → List ℕ → List ℕ
function_text i body = label_text (codes ".text") i (codes "::f") ++ body ++ codes "\n"

-- the functions of three crates, by name
abbrev pub three_text : ℕ → ℕ → ℕ → List ℕ
three_text p q r = concat (codes ".quad " ∷ crate_name p ∷ codes "::f, " ∷ crate_name q ∷ codes "::f, " ∷ crate_name r ∷ codes "::f\n" ∷ [])

-- a table that names the functions of three crates
abbrev pub table_text : ℕ → ℕ → ℕ → ℕ → List ℕ
table_text i p q r = label_text (codes ".rodata") i (codes "::t") ++ three_text p q r

-- the source of a crate
abbrev pub source : ℕ → List ℕ → ℕ → ℕ → ℕ → List ℕ
source i body p q r = function_text i body ++ table_text i p q r

-- the image where it is within a mebibyte, and else no byte
abbrev pub short_image : List ℕ → List ℕ
short_image bytes = if nat_le (length bytes) max_file_bytes then bytes else []

-- none where the source has a fault
abbrev pub image_or_none : Result (List ℕ) (ℕ × AsmKind) → List ℕ
image_or_none (Ok bytes) = short_image bytes
image_or_none (Err fault) = []

unfoldable pub image_of : List ℕ → List ℕ
image_of text = image_or_none (image_of_source text)

abbrev pub file_of : List ℕ → List ℕ → File
file_of name text = record { name = name; bytes = image_of text }

-- the file that is loaded, and the one that takes its place
abbrev pub loaded_name : ℕ → List ℕ
loaded_name i = codes "k#" ++ crate_name i ++ codes ".o"

abbrev pub replacing_name : ℕ → List ℕ
replacing_name i = codes "n#" ++ crate_name i ++ codes "-2.o"

abbrev pub files_naming : ℕ → ℕ → ℕ → ℕ → List File
files_naming i p q r =
    file_of (loaded_name i) (source i (codes "ret") p q r)
    ∷ file_of (replacing_name i) (source i (codes "nop\nret") p q r)
    ∷ []

-- three draws for each crate
abbrev pub files_of_crate : ℕ → ℕ → ℕ → List File
files_of_crate n seed i = files_naming i (drawn n seed (3 * i - 2)) (drawn n seed (3 * i - 1)) (drawn n seed (3 * i))

abbrev pub crates_to : ℕ → List ℕ
crates_to n = range_with_len 1 n

abbrev pub generated_files : ℕ → ℕ → List File
generated_files n seed = flat_map (files_of_crate n seed) (crates_to n)

abbrev pub load_text : ℕ → List ℕ
load_text i = concat (codes "load k " ∷ crate_name i ∷ codes "\n" ∷ [])

abbrev pub swap_text : ℕ → List ℕ
swap_text i = concat (codes "swap k/" ∷ crate_name i ∷ codes "=" ∷ replacing_name i ∷ codes "\n" ∷ [])

abbrev pub generated_script : ℕ → List ℕ
generated_script n = flat_map load_text (crates_to n) ++ flat_map swap_text (crates_to n) ++ codes "purge\n"

abbrev pub load_command : ℕ → Command
load_command i = Load (codes "k") (crate_name i)

abbrev pub swap_command : ℕ → Command
swap_command i =
    Swap (record { ns = codes "k"; stem = crate_name i; file = replacing_name i } ∷ []) false false [] usual_budget

abbrev pub line_numbered : ℕ → Command → Line
line_numbered number command = record { number = number; command = command }

-- a command for each crate, behind so many lines
abbrev pub lines_behind : ℕ → (ℕ → Command) → ℕ → List Line
lines_behind before command n = map (λ i. line_numbered (before + i) (command i)) (crates_to n)

-- the loads have the lines 1 to n, the swaps those from n + 1 on
abbrev pub generated_lines : ℕ → List Line
generated_lines n = lines_behind 0 load_command n ++ lines_behind n swap_command n ++ line_numbered (2 * n + 1) Purge ∷ []
