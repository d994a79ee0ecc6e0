use Rattle.std.proofs.Common.{◌≡◌, ◌++◌, map, drop, option_map}
use Rattle.cell_script.specs.Grammar.{cell_name, each_said}
use Rattle.cell_script.proofs.cells.read_each.Given as goal

-- the cells so far, and those of the words that are left, are all cells
abbrev pub invariant-loop-word : goal.invariant-loop-word
invariant-loop-word l = option_map (λ later. l.cells.items ++ later) (each_said cell_name (map (λ word. word.now) (drop l.word-index l.words))) ≡ each_said cell_name (map (λ word. word.now) l.words)
