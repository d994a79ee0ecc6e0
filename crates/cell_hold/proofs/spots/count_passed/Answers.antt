use Rattle.std.proofs.Common.{arith, ◌-◌}
use Rattle.cell_hold.proofs.Nearing.{reach_below}
use Rattle.cell_hold.proofs.spots.count_passed.Goals as goal

pub returns-then-spots-place-clause-passed : goal.returns-then-spots-place-clause-passed
returns-then-spots-place-clause-passed c = reach_below c.args.spots.now (c.loop-place.place - 1) _ c.requires.rise (omega arith) c.args.word c.if-spots-place.true
