use Rattle.std.proofs.Common.{◌+◌, ◌%◌, length, refl, ◌∙◌, arith}
use Rattle.std.proofs.lemmas.List.{length-set}
use Rattle.cell_mem.proofs.Pasting.{number_begun, number_more, number_done}
use Rattle.cell_mem.proofs.number.put_number.Goals as goal

pub loop-k-init : goal.loop-k-init
loop-k-init c = record { all = number_begun c.args.bytes.now c.args.at c.args.width c.args.value; room = refl }

pub loop-k-preserved : goal.loop-k-preserved
loop-k-preserved c = record {
  all = rw c.from.ensures (number_more c.loop-k.bytes _ c.args.at c.loop-k.k c.args.width c.loop-k.left _ (omega arith) (omega arith) refl c.loop-k.invariant.all);
  room = length-set c.loop-k.bytes (c.args.at + c.from.result) (c.loop-k.left % 256) ∙ c.loop-k.invariant.room;
}

pub returns : goal.returns
returns c = number_done c.loop-k.bytes _ c.args.at c.loop-k.k c.args.width c.loop-k.left (omega arith) c.loop-k.invariant.all
