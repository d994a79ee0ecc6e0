use Rattle.std.proofs.Common.{◌≡◌, take}
use Rattle.cell_hold.specs.Adds.{Adds}
use Rattle.cell_hold.specs.Reached.{touches}
use Rattle.cell_hold.proofs.words.add_numbers.Given as goal

abbrev pub invariant-loop-word : goal.invariant-loop-word
invariant-loop-word l = record {
  added : Adds (touches l.others.items (take l.word-index l.words)) l.fn.into.room l.fn.into.items l.into.items;
  room : l.into.room ≡ l.fn.into.room;
}
