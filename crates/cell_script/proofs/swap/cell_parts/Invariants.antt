use Rattle.std.proofs.Common.{◌≡◌, ◌++◌, map, drop}
use Rattle.cell_script.specs.Grammar.{cell_part}
use Rattle.cell_script.proofs.swap.cell_parts.Given as goal

-- the parts so far, and those of the words that are left
abbrev pub invariant-loop-word : goal.invariant-loop-word
invariant-loop-word l = map (λ part. part.now) l.parts.items ++ map cell_part (map (λ word. word.now) (drop l.word-index l.words)) ≡ map cell_part (map (λ word. word.now) l.words)
