use Rattle.std.specs.BTreeMap.{get}
use Rattle.cell_link.specs.Tables.{spot_cmp}
use Rattle.cell_link.proofs.BoundLemmas.{highs_more, highs_all}
use Rattle.cell_link.proofs.numbers.highs_of.Goals as goal

pub loop-index-preserved : goal.loop-index-preserved
loop-index-preserved c =
    highs_more c.args.places.now.cell.now c.args.targets.now c.as_slice-entries.result.now c.loop-index.index _ _ _ _ c.as_slice-entries.ensures c.loop-index-test.true c.requires.each c.loop-index.invariant c.in_ok-insert_high.ensures.high

pub returns-clause-highs : goal.returns-clause-highs
returns-clause-highs c =
    highs_all c.args.places.now.cell.now c.args.targets.now c.as_slice-entries.result.now c.loop-index.index (get spot_cmp c.loop-index.highs) c.as_slice-entries.ensures c.loop-index-test.false c.loop-index.invariant
