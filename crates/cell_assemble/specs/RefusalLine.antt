-- The line of a refusal.
use Rattle.std.specs.Prelude.{ℕ, List, [], ◌∷◌, ◌++◌, codes}
use Rattle.std.specs.Fmt.{decimal}
use Rattle.cell_num.specs.Limits.{max_source_bytes}
use Rattle.cell_asm.specs.declared.kind.AsmKind.{AsmKind}
use Rattle.cell_asm.specs.declared.kind.AsmKind.TheVariants as kinds
use Rattle.cell_assemble.specs.declared.status.Refusal.{Refusal}
use Rattle.cell_assemble.specs.declared.status.Refusal.TheVariants.{TooManyNames, NoSource, TooLong, Fault}

abbrev pub kind_word : AsmKind → List ℕ
kind_word kinds.Word = codes "Word"
kind_word kinds.Operand = codes "Operand"
kind_word kinds.Range = codes "Range"
kind_word kinds.Section = codes "Section"
kind_word kinds.Twice = codes "Twice"
kind_word kinds.Label = codes "Label"
kind_word kinds.Long = codes "Long"

-- what is said of other words than two
abbrev pub usage_line : List ℕ
usage_line = codes "usage: cellas DIR SOURCE" ++ 10 ∷ []

-- what is said of a refusal, where the source has that name
abbrev pub refusal_text : List ℕ → Refusal → List ℕ
refusal_text source TooManyNames = codes "too many names: limit " ++ decimal 65536
refusal_text source NoSource = codes "no source " ++ source
refusal_text source TooLong = codes "too long: limit " ++ decimal max_source_bytes
refusal_text source (Fault line kind) = codes "line " ++ (decimal line ++ (codes ": " ++ kind_word kind))

-- a line feed after it
abbrev pub refusal_line : List ℕ → Refusal → List ℕ
refusal_line source refusal = refusal_text source refusal ++ 10 ∷ []
