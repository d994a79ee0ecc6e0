-- A line of a source.
--     line_of text      its label and its statement, or the earliest fault of their words and operands
use Rattle.std.specs.Prelude.{◌==◌, ◌-◌, ◌||◌, ◌∷◌, ◌++◌, if◌then◌else◌}
use Rattle.cell_asm.specs.Types.{ℕ, Bool, not, List, [], map, take, drop, length, codes, Option, Some, None, ok_or, Result, Ok, Err, before_first, prefix_len, suffix_len, take_while, slice_split, where_true, AsmKind, AsmKindWord as Word, Operand, Statement, Nothing, Line}
use Rattle.cell_asm.specs.Faults.{with_value, gathered}
use Rattle.cell_asm.specs.Names.{is_name, ends}
use Rattle.cell_asm.specs.Operands.{operand}
use Rattle.cell_asm.specs.Statements.{statement}

-- a space or a tab
abbrev pub is_blank : ℕ → Bool
is_blank b = b == 32 || b == 9

abbrev pub is_inked : ℕ → Bool
is_inked b = not (is_blank b)

-- without the blanks at both ends
abbrev pub trimmed : List ℕ → List ℕ
trimmed text =
    let rest = drop (prefix_len is_blank text) text in take (length rest - suffix_len is_blank rest) rest

-- the line without its comment
abbrev pub code_of : List ℕ → List ℕ
code_of line = trimmed (before_first (λ b. b == 35) line)

-- the first word of a trimmed text, and what follows it
abbrev pub first_word : List ℕ → List ℕ
first_word text = take_while is_inked text

abbrev pub after_word : List ℕ → List ℕ
after_word text = trimmed (drop (prefix_len is_inked text) text)

-- the operands between the commas; there are none where nothing follows the word
abbrev pub operand_texts : List ℕ → List (List ℕ)
operand_texts [] = []
operand_texts (b ∷ bs) = map trimmed (slice_split (λ c. c == 44) (b ∷ bs))

abbrev pub spelled : List ℕ → Result Operand AsmKind
spelled text = ok_or (operand text) Word

abbrev pub operands : List (Result Operand AsmKind) → Result (List Operand) AsmKind
operands os = gathered (λ before o. before ++ o ∷ []) [] os

-- what an operand that is misspelled hides doesn't count: no fault comes before Word
abbrev pub read_with : (List Operand → Result Statement AsmKind) → Result (List Operand) AsmKind → Result Statement AsmKind
read_with read (Ok operands) = read operands
read_with read (Err k) = Err k

abbrev pub statement_in : List ℕ → Result Statement AsmKind
statement_in [] = Ok Nothing
statement_in (b ∷ bs) =
    read_with (statement (first_word (b ∷ bs))) (operands (map spelled (operand_texts (after_word (b ∷ bs)))))

-- a first word that ends in a colon is a label, or wrong
abbrev pub has_label : List ℕ → Bool
has_label code = ends (first_word code) (codes ":")

abbrev pub label_name : List ℕ → Option (List ℕ)
label_name word = let name = take (length word - 1) word in where_true (is_name name) name

-- behind a label that is none, which is a wrong word, nothing else counts
abbrev pub labelled : Option (List ℕ) → List ℕ → Result Line AsmKind
labelled None text = Err Word
labelled (Some name) text = with_value (λ s. record { label = Some name; statement = s }) (statement_in text)

abbrev pub line_in : List ℕ → Result Line AsmKind
line_in code =
    if has_label code then labelled (label_name (first_word code)) (after_word code)
    else with_value (λ s. record { label = None; statement = s }) (statement_in code)

abbrev pub line_of : List ℕ → Result Line AsmKind
line_of line = line_in (code_of line)
