-- A dump as it is printed is the dump of a transcript.
use Rattle.std.proofs.Common.{◌≡◌, refl, ◌∙◌, ap, ap₂, ℕ, List, [], ◌∷◌, ◌++◌, append_assoc, append-nil, map}
use Rattle.std.specs.Prelude.{flat_map}
use Rattle.cell_world.specs.declared.line.DumpLine.{DumpLine}
use Rattle.cell_world.specs.declared.reply.Reply.TheVariants.{DumpAll}
use Rattle.cell_dumped.specs.Texts.{line_text}
use Rattle.cell_print.specs.Lines.{dump_line, reply_lines}
use Rattle.cell_audit_laws.specs.Anew.{shown}
use Rattle.cell_audit_laws.specs.Transcripts.{answer_text, ended, transcript}

line_printed : (l : DumpLine) → dump_line l ≡ ended (shown l)
line_printed l = ap (λ (t : List ℕ). 32 ∷ 32 ∷ (t ++ 10 ∷ [])) (append-nil (line_text l))

lines_printed : (lines : List DumpLine) → flat_map dump_line lines ≡ flat_map ended (map shown lines)
lines_printed [] = refl
lines_printed (l ∷ lines) = ap₂ (λ (x y : List ℕ). x ++ y) (line_printed l) (lines_printed lines)

pub dump_printed : (before : List (List ℕ)) (n : ℕ) (lines : List DumpLine) (rest : List ℕ) → flat_map ended before ++ (reply_lines n (DumpAll lines) ++ rest) ≡ transcript before n lines rest
dump_printed before n lines rest =
    ap (λ (t : List ℕ). flat_map ended before ++ t)
    (append_assoc (ended (answer_text n)) (flat_map dump_line lines) rest ∙ ap (λ (t : List ℕ). ended (answer_text n) ++ (t ++ rest)) (lines_printed lines))
