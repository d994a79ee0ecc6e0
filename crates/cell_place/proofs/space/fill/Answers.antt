use Rattle.std.proofs.Common.{ap, ◌+◌, ◌∙◌, arith}
use Rattle.std.proofs.Math.ListN.{set}
use Rattle.cell_place.proofs.Filling.{filled_more}
use Rattle.cell_place.proofs.space.fill.Goals as goal

pub loop-i-preserved : goal.loop-i-preserved
loop-i-preserved c =
    ap (λ t. set t (c.args.run.page + c.loop-i.i) c.args.value) c.loop-i.invariant
    ∙ filled_more c.args.taken.now c.args.run.page c.loop-i.i c.args.value (omega arith)
