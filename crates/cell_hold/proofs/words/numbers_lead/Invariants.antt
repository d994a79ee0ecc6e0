use Rattle.std.proofs.Common.{◌≡◌, false, take}
use Rattle.cell_hold.specs.Reached.{touches}
use Rattle.cell_hold.proofs.words.numbers_lead.Given as goal

abbrev pub invariant-loop-word : goal.invariant-loop-word
invariant-loop-word l = touches l.places (take l.word-index l.words) l.cell.0 ≡ false
