use Rattle.std.proofs.Common.{◌∙◌, ap, arith}
use Rattle.std.proofs.Math.Numerals.{suc-eq-add-one}
use Rattle.cell_mem.specs.State.{MemoryState}
use Rattle.cell_task.specs.Clearing.{zeroed_in}
use Rattle.cell_task.proofs.Cleared.{all_cleared, none_cleared, word_cleared, word_open}
use Rattle.cell_task.proofs.clearing.clear_stack.Goals as goal

pub loop-word-init : goal.loop-word-init
loop-word-init c = record { cleared = none_cleared c.args.memory.now _ c.laid_out.ensures c.args.stack c.requires.stack; most = omega arith }

pub clear_word-requires-clause-may : goal.clear_word-requires-clause-may
clear_word-requires-clause-may c =
    word_open c.args.memory.now _ c.laid_out.ensures c.args.stack c.requires.stack c.loop-word.word (omega (arith, c.loop-word-test.true)) c.loop-word.memory _ c.laid_out-in-loop-word.ensures c.loop-word.invariant.cleared

pub clear_word-requires-clause-undo : goal.clear_word-requires-clause-undo
clear_word-requires-clause-undo c = ap (λ (m : MemoryState). m.undo) c.loop-word.invariant.cleared ∙ c.requires.undo

pub loop-word-preserved : goal.loop-word-preserved
loop-word-preserved c = record {
  cleared = word_cleared c.args.memory.now _ c.laid_out.ensures c.args.stack c.requires.stack c.loop-word.word (omega (arith, c.loop-word-test.true)) c.loop-word.memory c.clear_word.new.memory c.loop-word.invariant.cleared c.clear_word.ensures
      ∙ ap (zeroed_in c.args.memory.now c.args.stack) (suc-eq-add-one c.loop-word.word);
  most = omega (arith, c.loop-word-test.true);
}

pub returns : goal.returns
returns c =
    all_cleared c.args.memory.now _ c.laid_out.ensures c.args.stack c.requires.stack c.loop-word.word (omega (arith, c.loop-word-test.false)) c.loop-word.invariant.most c.loop-word.memory c.loop-word.invariant.cleared
