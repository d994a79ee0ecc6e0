use Rattle.std.proofs.Common.{◌≡◌, take}
use Rattle.cell_hold.specs.Adds.{Spreads}
use Rattle.cell_hold.specs.Reached.{reaches_anew, reaches_on}
use Rattle.cell_hold.proofs.worklist.spread.Given as goal

abbrev pub invariant-loop-next : goal.invariant-loop-next
invariant-loop-next l = record {
  spread :
      Spreads (reaches_on l.reading.graph.now l.reading.memory.now l.reading.places.now l.reading.others.now.items)
      (reaches_anew l.reading.graph.now l.reading.memory.now l.reading.places.now l.reading.others.now.items (take l.known l.fn.into.items)) l.fn.into.room l.next l.fn.into.items l.into.items;
  room : l.into.room ≡ l.fn.into.room;
}
