-- The line of a run that ends before its first command.
use Rattle.std.specs.Prelude.{ℕ, List, [], ◌∷◌, codes}
use Rattle.std.specs.Fmt.{decimal}
use Rattle.cell_print.specs.Lines.{line}
use Rattle.cell_input.specs.declared.reason.What.{What}
use Rattle.cell_input.specs.declared.reason.What.TheVariants.{Names, Files, FileBytes, AllBytes, ScriptBytes}
use Rattle.cell_input.specs.declared.reason.Reason.{Reason}
use Rattle.cell_input.specs.declared.reason.Reason.TheVariants.{NoScript, BadScript, TooLarge}

abbrev pub what_word : What → List ℕ
what_word Names = codes "names"
what_word Files = codes "files"
what_word FileBytes = codes "file-bytes"
what_word AllBytes = codes "all-bytes"
what_word ScriptBytes = codes "script-bytes"

-- the line of words without a reading
abbrev pub usage_line : List ℕ
usage_line = line (codes "usage: cells DIR SCRIPT [--base HEX] [--pages N] | --generate N --seed S" ∷ [])

-- the line of a run of that script
abbrev pub reason_line : List ℕ → Reason → List ℕ
reason_line script NoScript = line (codes "no script " ∷ script ∷ [])
reason_line script (BadScript n) = line (codes "bad script line " ∷ decimal n ∷ [])
reason_line script (TooLarge what limit) = line (codes "too large: " ∷ what_word what ∷ codes " limit " ∷ decimal limit ∷ [])
