use Rattle.std.proofs.Common.{ℕ, ◌∙◌}
use Rattle.cell_hold.specs.Places.{is_cells_at}
use Rattle.cell_hold.proofs.Adding.{added_next, added_all}
use Rattle.cell_hold.proofs.words.add_numbers.Goals as goal

pub loop-word-preserved : goal.loop-word-preserved
loop-word-preserved c = record {
  added =
      added_next (λ (w : ℕ). λ (k : ℕ). is_cells_at k w c.args.others.now.items) c.args.words.now c.loop-word.word-index 0 _ _ _ _ _ c.loop-word-test.true c.loop-word.invariant.room c.loop-word.invariant.added
      c.add_word.ensures.added;
  room = c.add_word.ensures.room ∙ c.loop-word.invariant.room;
}

pub returns-clause-added : goal.returns-clause-added
returns-clause-added c = added_all (λ (w : ℕ). λ (k : ℕ). is_cells_at k w c.args.others.now.items) c.args.words.now c.loop-word.word-index _ _ _ c.loop-word-test.false c.loop-word.invariant.added
