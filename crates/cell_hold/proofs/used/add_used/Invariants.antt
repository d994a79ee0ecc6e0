use Rattle.std.proofs.Common.{◌≡◌, take}
use Rattle.cell_hold.specs.Spots.{places_of}
use Rattle.cell_hold.specs.Uses.{Uses}
use Rattle.cell_hold.proofs.used.add_used.Given as goal

abbrev pub invariant-loop-spot : goal.invariant-loop-spot
invariant-loop-spot l = record {
  uses : Uses l.graph.rows (take l.spot-index (places_of l.spot-items)) l.fn.into.room l.fn.into.items l.into.items;
  room : l.into.room ≡ l.fn.into.room;
}
