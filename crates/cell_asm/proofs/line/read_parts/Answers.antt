use Rattle.std.specs.Prelude.{◌<◌, ◌∷◌, ◌++◌}
use Rattle.cell_asm.proofs.Facts.{ℕ, List, Bor, [], length, get_or, Ok, ap, sym, ◌∙◌, arith, ok_or, AsmKindWord as Word, Operand, joined, spelled, trimmed, operand}
use Rattle.cell_asm.proofs.ReadingLemmas.{gathered_more, word_decides}
use Rattle.cell_asm.proofs.line.read_parts.Goals as goal

-- stands for an element where there is none
abbrev no_part : Bor (List ℕ)
no_part = record { ref_ptr = (0, 0); now = [] }

abbrev push : List Operand → Operand → List Operand
push os o = os ++ o ∷ []

pub returns-in-None : goal.returns-in-None
returns-in-None c =
    let i = c.loop-part.part-index in
    let parts = c.args.parts.now in
    let within : i < length parts = omega arith in
    word_decides push [] c.loop-part.operands.items (λ (part : Bor (List ℕ)). operand (trimmed part.now)) parts i no_part within c.loop-part.invariant (sym (c.in-None.ensures ∙ ap operand c.trimmed.ensures))

pub loop-part-preserved : goal.loop-part-preserved
loop-part-preserved c =
    let i = c.loop-part.part-index in
    let parts = c.args.parts.now in
    let within : i < length parts = omega arith in
    gathered_more push [] (λ (part : Bor (List ℕ)). spelled (trimmed part.now)) parts i no_part within
    ∙ ap (λ r. joined push r (spelled (trimmed (get_or parts i no_part).now))) c.loop-part.invariant
    ∙ ap (λ o. joined push (Ok c.loop-part.operands.items) (ok_or o Word)) (sym (c.in-Some.ensures ∙ ap operand c.trimmed.ensures))
    ∙ ap Ok (sym c.in_ok-push-in-Some.ensures.items)
