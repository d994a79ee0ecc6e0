use Rattle.std.proofs.Common.{sym, ◌∙◌}
use Rattle.cell_hold.proofs.Nearing.{near_added, near_settled, none_settled}
use Rattle.cell_hold.proofs.words.add_found.Goals as goal

pub returns-then-are_at-clause-added : goal.returns-then-are_at-clause-added
returns-then-are_at-clause-added c =
    near_added c.args.others.now.items c.near-near.result.spots.now c.near-near.result.span c.args.word _ _ _ c.ranges.word.fits c.near-near.ensures.here c.near-near.ensures.only c.add_at.ensures.added

pub returns-then-are_at-clause-settled : goal.returns-then-are_at-clause-settled
returns-then-are_at-clause-settled c =
    near_settled c.args.others.now.items c.near-near.result.spots.now c.near-near.result.span c.args.word _ _ _ c.ranges.word.fits c.near-near.ensures.here c.near-near.ensures.only c.add_at.ensures.added
    (sym c.are_at.ensures ∙ c.if-are_at.true)

pub returns-clause-added : goal.returns-clause-added
returns-clause-added c =
    near_added c.args.others.now.items c.near-near.result.spots.now c.near-near.result.span c.args.word _ _ _ c.ranges.word.fits c.near-near.ensures.here c.near-near.ensures.only c.add_at.ensures.added

pub returns-clause-settled : goal.returns-clause-settled
returns-clause-settled c = none_settled c.args.others.now.items c.none.result c.args.into.now.room c.add_at.new.into.items c.none.ensures
