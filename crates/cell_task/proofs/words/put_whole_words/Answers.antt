use Rattle.cell_task.proofs.Wording.{word_step, words_end}
use Rattle.cell_task.proofs.words.put_whole_words.Goals as goal

pub loop-k-preserved : goal.loop-k-preserved
loop-k-preserved c =
    word_step c.args.bytes.now c.loop-k.k c.read_u64.result c.loop-k.into.items c.push.new.self.items _ c.loop-k-test.true c.read_u64.ensures (c.in_ok-push.ensures {u = tt}).items c.loop-k.invariant

pub returns : goal.returns
returns c = words_end c.args.bytes.now c.loop-k.k c.loop-k.into.items _ c.loop-k-test.false c.loop-k.invariant
