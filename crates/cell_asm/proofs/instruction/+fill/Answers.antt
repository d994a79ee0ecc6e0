use Rattle.cell_asm.proofs.Facts.{◌∙◌, ap, arith, nat_tests, Rd, filled}
use Rattle.cell_asm.proofs.ReadingLemmas.{rest, first_filled, too_many, too_few}
use Rattle.cell_asm.proofs.instruction.+fill.Goals as goal
use Rattle.cell_asm.proofs.instruction.+fill.Goals.{in_default-via-then-slots-lt1+else-operands-lt1, in_default-via-else-slots-lt1+then-this-lt1}

pub returns-in-len1-up-len1-up : goal.returns-in-len1-up-len1-up
returns-in-len1-up-len1-up t c =
    c.fill.ensures ∙ ap (λ f. filled f (rest c.args.slots.now) (rest c.args.operands.now)) c.put.ensures
    ∙ first_filled c.args.fields c.args.slots.now c.args.operands.now Rd c.operand-item.result (grind (arith, nat_tests)) (grind (arith, nat_tests)) c.operand-item.is

pub returns-in_default : goal.returns-in_default
returns-in_default t c = elim c.in_default.branch [
  | in_default-via-then-slots-lt1+else-operands-lt1 w ↦ c.miscounted.ensures ∙ too_many c.args.fields c.args.slots.now c.args.operands.now (grind (arith, nat_tests)) (grind (arith, nat_tests))
  | in_default-via-else-slots-lt1+then-this-lt1 w ↦ c.miscounted.ensures ∙ too_few c.args.fields c.args.slots.now c.args.operands.now (grind (arith, nat_tests)) (grind (arith, nat_tests))
]
