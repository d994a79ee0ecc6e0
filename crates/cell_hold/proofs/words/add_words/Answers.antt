use Rattle.std.proofs.Common.{arith, ap, refl, ◌∙◌, length, length-drop}
use Rattle.cell_hold.proofs.Wording.{so_far_begun, so_far_done, so_far_more, so_far_past}
use Rattle.cell_hold.proofs.words.add_words.Goals as goal

pub loop-rest-init : goal.loop-rest-init
loop-rest-init c = record { added = so_far_begun _ _ _ _; room = refl }

pub loop-rest-preserved : goal.loop-rest-preserved
loop-rest-preserved c = record {
  added =
      so_far_past _ _ _ _ _ _ _ _ _ c.loop-rest.invariant.room c.add_found-settled.ensures.settled c.unsettled-rest.ensures.past
      (so_far_more _ _ _ _ _ _ _ _ _ _ (omega arith) c.first_word-word.ensures c.after.ensures c.loop-rest.invariant.room c.loop-rest.invariant.added c.add_found-settled.ensures.added);
  room = c.add_found-settled.ensures.room ∙ c.loop-rest.invariant.room;
}

pub returns-clause-added : goal.returns-clause-added
returns-clause-added c = so_far_done _ _ _ _ _ _ (omega arith) c.loop-rest.invariant.added

pub loop-rest-smaller : goal.loop-rest-smaller
loop-rest-smaller c = omega (arith, simp length-drop at (ap length c.after.ensures))
