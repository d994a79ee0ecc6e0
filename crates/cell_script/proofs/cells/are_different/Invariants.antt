use Rattle.std.proofs.Common.{◌≡◌, map}
use Rattle.cell_script.specs.Grammar.{are_different}
use Rattle.cell_script.proofs.SeenWords.{are_fresh, words_from}
use Rattle.cell_script.proofs.cells.are_different.Given as goal

-- the words differ where those that are left do, and none of them was seen
abbrev pub invariant-loop-word : goal.invariant-loop-word
invariant-loop-word l = are_different (map (λ word. word.now) l.words) ≡ are_fresh l.seen.keys (words_from l.words l.word-index)
