use Rattle.std.proofs.Common.{ap, ◌+◌, ◌∙◌, arith}
use Rattle.std.proofs.Math.ListN.{set}
use Rattle.cell_mem.proofs.Filling.{filled_more}
use Rattle.cell_mem.proofs.fill.fill.Goals as goal

pub loop-i-preserved : goal.loop-i-preserved
loop-i-preserved g c =
    ap (λ t. set t (c.args.from + c.loop-i.i) c.args.value) c.loop-i.invariant
    ∙ filled_more c.args.items.now c.args.from c.loop-i.i c.args.value (omega arith)
