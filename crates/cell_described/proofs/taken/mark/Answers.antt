use Rattle.std.proofs.Common.{ap, ◌+◌, ◌∙◌, arith, true}
use Rattle.std.proofs.Math.ListN.{set}
use Rattle.cell_place.proofs.Filling.{filled_more}
use Rattle.cell_described.proofs.taken.mark.Goals as goal

pub loop-i-preserved : goal.loop-i-preserved
loop-i-preserved c =
    ap (λ t. set t (c.args.first + c.loop-i.i) true) c.loop-i.invariant ∙ filled_more c.args.bytes.now c.args.first c.loop-i.i true (omega arith)
