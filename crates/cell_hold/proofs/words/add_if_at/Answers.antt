use Rattle.std.proofs.Common.{sym, ◌∙◌}
use Rattle.cell_hold.proofs.Nearing.{added_at, not_added_at}
use Rattle.cell_hold.proofs.words.add_if_at.Goals as goal

pub returns-then-not-is_at-clause-added : goal.returns-then-not-is_at-clause-added
returns-then-not-is_at-clause-added c = not_added_at c.args.place.now c.args.word _ _ (sym c.is_at.ensures ∙ c.if-not-is_at.true)

pub returns-clause-added : goal.returns-clause-added
returns-clause-added c = added_at c.args.place.now c.args.word _ _ _ (sym c.is_at.ensures ∙ c.if-not-is_at.false) c.add.ensures.added
