use Rattle.std.proofs.Common.{sym, ◌∙◌}
use Rattle.cell_place.proofs.Table.{lowest_inside}
use Rattle.cell_place.proofs.search.search.Goals as goal

pub returns-in-Some-clause-inside : goal.returns-in-Some-clause-inside
returns-in-Some-clause-inside c = lowest_inside c.args.taken.now c.args.count c.in-Some.page c.requires.wanted (sym c.lowest_from.ensures ∙ c.in-Some.is)
