use Rattle.std.proofs.Common.{arith}
use Rattle.cell_gen.specs.Generated.{swap_text}
use Rattle.cell_gen.proofs.Crates.{lines_more}
use Rattle.cell_gen.proofs.script.put_swaps.Goals as goal

pub loop-number-preserved : goal.loop-number-preserved
loop-number-preserved c = record {
  from_one = omega arith;
  within = omega arith;
  text = lines_more swap_text c.loop-number.number c.args.text.now.items c.loop-number.text.items c.put_swap.new.text.items c.loop-number.invariant.from_one c.loop-number.invariant.text c.in_ok-put_swap.ensures;
}
