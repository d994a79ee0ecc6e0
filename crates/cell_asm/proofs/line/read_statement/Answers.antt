use Rattle.cell_asm.proofs.Facts.{map, ap, sym, subst, ◌∙◌, Gives, spelled, operand_texts, read_with, first_word, operands, statement}
use Rattle.cell_asm.proofs.ReadingLemmas.{statement_filled}
use Rattle.cell_asm.proofs.line.read_statement.Goals as goal

pub returns : goal.returns
returns c =
    let text = c.args.text.now in
    subst (Gives c.statement.result)
    (ap (λ w. statement w c.as_slice.result.now) c.first_word.ensures
    ∙ ap (λ os. statement (first_word text) os) c.as_slice.ensures
    ∙ sym (ap (read_with (statement (first_word text))) (ap (λ t. operands (map spelled (operand_texts t))) (sym c.after_word.ensures) ∙ c.in_ok-operands.ensures))
    ∙ sym (statement_filled text (sym c.is_empty.ensures ∙ c.if-is_empty.false)))
    c.statement.ensures
