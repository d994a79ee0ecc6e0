use Rattle.std.specs.Prelude.{◌<◌}
use Rattle.cell_asm.proofs.Facts.{map, take, length, ap, sym, ◌∙◌, arith, appended, empty, joined, gathered, datum}
use Rattle.cell_asm.proofs.ReadingLemmas.{gathered_more}
use Rattle.cell_asm.proofs.directive.numbers.Goals as goal

pub loop-operand-preserved : goal.loop-operand-preserved
loop-operand-preserved c =
    let i = c.loop-operand.operand-index in
    let operands = c.args.operands.now in
    let within : i < length operands = omega arith in
    c.in_ok-draft.ensures
    ∙ ap (λ r. joined appended r c.datum.result) c.loop-operand.invariant
    ∙ ap (joined appended (gathered appended empty (map (datum c.args.width) (take i operands)))) (c.datum.ensures ∙ ap (datum c.args.width) c.operand-item.is)
    ∙ sym (gathered_more appended empty (datum c.args.width) operands i c.operand-item.result within)
