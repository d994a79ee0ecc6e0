use Rattle.std.proofs.Common.{◌≡◌, ◌++◌, length, map}
use Rattle.cell_script.specs.Grammar.{after_routines, routine_words}
use Rattle.cell_script.proofs.transfer.take_routines.Given as goal

-- the symbols so far, and those of the words that are left
abbrev pub invariant-loop-behind : goal.invariant-loop-behind
invariant-loop-behind l = record {
  symbols : map (λ symbol. symbol.now) l.symbols.items ++ routine_words (map (λ word. word.now) l.behind) ≡ routine_words (map (λ word. word.now) l.words);
  behind : after_routines (map (λ word. word.now) l.behind) ≡ after_routines (map (λ word. word.now) l.words);
}

abbrev pub decreases-loop-behind : goal.decreases-loop-behind
decreases-loop-behind l = length l.behind
