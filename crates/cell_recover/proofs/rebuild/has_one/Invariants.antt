use Rattle.std.proofs.Common.{◌≡◌, false, take}
use Rattle.std.specs.List.{list_any}
use Rattle.cell_recover.specs.Rebuild.{has_word}
use Rattle.cell_recover.proofs.rebuild.has_one.Given as goal

-- none of the words so far lies in the cell
abbrev pub invariant-loop-word : goal.invariant-loop-word
invariant-loop-word l = list_any (has_word l.cell) (take l.word-index l.words) ≡ false
