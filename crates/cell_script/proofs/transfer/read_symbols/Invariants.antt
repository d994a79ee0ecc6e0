use Rattle.std.proofs.Common.{◌≡◌, ◌++◌, map, drop, option_map}
use Rattle.cell_script.specs.Grammar.{each_said, symbol}
use Rattle.cell_script.proofs.transfer.read_symbols.Given as goal

-- the symbols so far, and those of the words that are left, are all symbols
abbrev pub invariant-loop-word : goal.invariant-loop-word
invariant-loop-word l = option_map (λ later. l.symbols.items ++ later) (each_said symbol (map (λ word. word.now) (drop l.word-index l.words))) ≡ each_said symbol (map (λ word. word.now) l.words)
