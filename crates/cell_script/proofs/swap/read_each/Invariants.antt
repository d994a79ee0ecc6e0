use Rattle.std.proofs.Common.{◌≡◌, ◌++◌, map, drop, option_map}
use Rattle.cell_script.specs.Grammar.{each_said, swap_item}
use Rattle.cell_script.proofs.swap.read_each.Given as goal

-- the items so far, and those of the words that are left, are all items
abbrev pub invariant-loop-word : goal.invariant-loop-word
invariant-loop-word l = option_map (λ later. l.items.items ++ later) (each_said swap_item (map (λ word. word.now) (drop l.word-index l.words))) ≡ each_said swap_item (map (λ word. word.now) l.words)
