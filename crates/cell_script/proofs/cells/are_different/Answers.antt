use Rattle.std.proofs.Common.{◌∙◌, ap, sym, arith}
use Rattle.cell_script.proofs.Lines.{no_text}
use Rattle.cell_script.proofs.SeenWords.{are_fresh, words_from, fresh_at_first, fresh_more, stale}
use Rattle.cell_script.proofs.cells.are_different.Goals as goal

pub loop-word-init : goal.loop-word-init
loop-word-init c = sym (ap (λ keys. are_fresh keys (words_from c.args.words.now 0)) c.new-seen.ensures.empty ∙ fresh_at_first (words_from c.args.words.now 0))

pub returns-then-not-branch : goal.returns-then-not-branch
returns-then-not-branch c =
    sym (c.loop-word.invariant
    ∙ stale c.args.words.now c.loop-word.word-index no_text c.loop-word.seen.keys c.in_ok-insert.field-0 (omega arith) c.in_ok-insert.ensures.added c.if-not-branch.true)

pub loop-word-preserved : goal.loop-word-preserved
loop-word-preserved c =
    c.loop-word.invariant
    ∙ fresh_more c.args.words.now c.loop-word.word-index no_text c.loop-word.seen.keys c.insert.new.self.keys c.in_ok-insert.field-0 (omega arith) c.in_ok-insert.ensures.added
    c.if-not-branch.false c.in_ok-insert.ensures.keys
