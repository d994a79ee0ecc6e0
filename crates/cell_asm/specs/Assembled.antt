-- What a source is assembled to.
--     assembled source      its object, or the number of a line and what is wrong with it
use Rattle.std.specs.Prelude.{◌≡◌, ◌==◌, ◌&&◌, ◌∷◌, ◌++◌}
use Rattle.cell_asm.specs.Types.{ℕ, Bool, false, not, List, [], Option, Some, None, Result, Ok, Err, find, fold, list_any, option_map_or, numbered_from, is_pcrel_lo12, is_upper_pcrel, lines_in, Object, AsmKind, AsmFail, AsmFailFault as Fault, AsmFailOutOfMemory as OutOfMemory, Text, Target, TargetNamed as Named, TargetMade as Made, Mark, Line, Laid, Label}
use Rattle.cell_asm.specs.declared.kind.AsmKind.TheVariants as kinds
use Rattle.cell_asm.specs.Lines.{line_of}
use Rattle.cell_asm.specs.Places.{marks_in, is_in, is_same_part, placed, fault_at}
use Rattle.cell_asm.specs.Objects.{label_named, object_of}

-- a line of the source in its place, or what is wrong with it there
abbrev pub placed_unless : List Laid → ℕ → Line → Option AsmKind → Result Laid AsmKind
placed_unless before n line None = Ok (placed before n line)
placed_unless before n line (Some kind) = Err kind

abbrev pub placed_line : List Laid → ℕ → Result Line AsmKind → Result Laid AsmKind
placed_line before n (Ok line) = placed_unless before n line (fault_at before line)
placed_line before n (Err kind) = Err kind

-- one more line behind those before it, where it has no fault
abbrev pub with_line : List Laid → ℕ → Result Laid AsmKind → Result (List Laid) (ℕ × AsmKind)
with_line before n (Ok l) = Ok (before ++ l ∷ [])
with_line before n (Err kind) = Err (n, kind)

-- after a line with a fault nothing is read
abbrev pub add_line : Result (List Laid) (ℕ × AsmKind) → ℕ × List ℕ → Result (List Laid) (ℕ × AsmKind)
add_line (Ok before) line = with_line before line.0 (placed_line before line.0 (line_of line.1))
add_line (Err fault) line = Err fault

-- lines in their places, numbered from 1; or the first one with a fault
abbrev pub placed_texts : List (List ℕ) → Result (List Laid) (ℕ × AsmKind)
placed_texts texts = fold add_line (Ok []) (numbered_from 1 texts)

abbrev pub placed_lines : List ℕ → Result (List Laid) (ℕ × AsmKind)
placed_lines source = placed_texts (lines_in source)

-- an instruction with %pcrel_hi or %got_pcrel_hi
abbrev pub has_upper : Laid → Bool
has_upper l = list_any (λ m. is_upper_pcrel m.fix.kind) (marks_in l.line.statement)

-- the label stands in .text at an instruction with %pcrel_hi or %got_pcrel_hi
abbrev pub is_upper_label : List Laid → Label → Bool
is_upper_label lines label =
    is_same_part Text label.part && list_any (λ l. is_in Text l && l.offset == label.offset && has_upper l) lines

-- %pcrel_lo of a name that has no such label
abbrev pub is_lost : List Laid → Target → Bool
is_lost lines Made = false
is_lost lines (Named name) = not (option_map_or (is_upper_label lines) (label_named lines name) false)

abbrev pub is_lost_mark : List Laid → Mark → Bool
is_lost_mark lines m = is_pcrel_lo12 m.fix.kind && is_lost lines m.fix.target

abbrev pub has_lost : List Laid → Laid → Bool
has_lost lines l = list_any (is_lost_mark lines) (marks_in l.line.statement)

-- the object, unless a line refers to a label that is none
abbrev pub object_unless : List Laid → Option Laid → Result Object (ℕ × AsmKind)
object_unless lines None = Ok (object_of lines)
object_unless lines (Some l) = Err (l.number, kinds.Label)

abbrev pub object_from : Result (List Laid) (ℕ × AsmKind) → Result Object (ℕ × AsmKind)
object_from (Ok lines) = object_unless lines (find (has_lost lines) lines)
object_from (Err fault) = Err fault

abbrev pub assembled : List ℕ → Result Object (ℕ × AsmKind)
assembled source = object_from (placed_lines source)

-- the answer is what the source is assembled to, or want of memory
abbrev pub Assembles : Result Object AsmFail → Result Object (ℕ × AsmKind) → Type 0
Assembles (Ok o) said = said ≡ Ok o
Assembles (Err (Fault line kind)) said = said ≡ Err (line, kind)
Assembles (Err OutOfMemory) said = Unit {0}
