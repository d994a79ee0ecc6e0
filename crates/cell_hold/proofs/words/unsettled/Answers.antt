use Rattle.std.proofs.Common.{sym, ◌∙◌, arith, rules}
use Rattle.cell_hold.proofs.Wording.{past_begun, past_more}
use Rattle.cell_hold.proofs.words.unsettled.Goals as goal

pub loop-rest-init : goal.loop-rest-init
loop-rest-init c = record { past = past_begun _ _; shorter = omega arith }

pub loop-rest-preserved : goal.loop-rest-preserved
loop-rest-preserved c = record {
  past =
      past_more _ _ _ _ _ (omega arith) c.first_word-word.ensures (omega arith) (sym c.has.ensures ∙ c.if-not-has.false) c.after-rest.ensures c.loop-rest.invariant.past;
  shorter = search rules;
}
