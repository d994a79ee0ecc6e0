use Rattle.std.proofs.Common.{◌≡◌, length}
use Rattle.cell_hold.proofs.Wording.{SoFar}
use Rattle.cell_hold.proofs.words.add_words.Given as goal

abbrev pub invariant-loop-rest : goal.invariant-loop-rest
invariant-loop-rest l = record {
  added : SoFar l.others.items l.fn.into.room l.bytes l.rest l.fn.into.items l.into.items;
  room : l.into.room ≡ l.fn.into.room;
}

abbrev pub decreases-loop-rest : goal.decreases-loop-rest
decreases-loop-rest l = length l.rest
