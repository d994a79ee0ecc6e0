use Rattle.cell_asm.proofs.Facts.{ap, sym, subst, ◌∙◌, map, Bor, List, ℕ, Gives, spelled, trimmed, operands}
use Rattle.cell_asm.proofs.ReadingLemmas.{parts_spelled}
use Rattle.cell_asm.proofs.line.read_operands.Goals as goal

pub returns : goal.returns
returns c =
    subst (λ texts. Gives c.read_parts.result (operands texts))
    (ap (λ (parts : List (Bor (List ℕ))). map (λ part. spelled (trimmed part.now)) parts) c.as_slice.ensures.value
    ∙ parts_spelled c.args.text.now c.in_ok-parts.parts.items (sym c.is_empty.ensures ∙ c.if-is_empty.false) c.in_ok-parts.ensures)
    c.read_parts.ensures
