use Rattle.std.proofs.lemmas.Bool.{and_from, leb-false}
use Rattle.cell_hold.specs.Spans.{is_above, is_below}
use Rattle.cell_hold.proofs.Nearing.{only_near}
use Rattle.cell_hold.proofs.spots.near_word.Goals as goal

pub returns-clause-here : goal.returns-clause-here
returns-clause-here c =
    and_from (is_above c.reach_of.result c.args.word) (is_below c.start_of.result c.args.word)
    (c.reach_of.ensures.last c.args.word c.count_passed-passed.ensures.passed)
    (c.start_of.ensures.first c.args.word (λ k d ge lt. leb-false _ c.args.word (c.count_begun-begun.ensures.begun.1 k d ge lt)))

pub returns-clause-only : goal.returns-clause-only
returns-clause-only c =
    only_near c.args.spots.now c.count_passed-passed.result c.count_begun-begun.result (record { above = c.reach_of.result; below = c.start_of.result }) c.requires c.count_passed-passed.ensures.bound
    c.count_begun-begun.ensures.bound c.reach_of.ensures.all c.start_of.ensures.all
