use Rattle.std.proofs.Common.{◌≡◌, ◌≤◌, length, take, vec_capacity}
use Rattle.cell_hold.specs.Spots.{places_of}
use Rattle.cell_hold.proofs.Starts.{SpotsSoFar}
use Rattle.cell_hold.proofs.spots.put_reaches.Given as goal

abbrev pub invariant-loop-place : goal.invariant-loop-place
invariant-loop-place l = record {
  places : places_of l.spots.items ≡ take l.place-index l.sorted;
  spots : SpotsSoFar l.spots.items l.reach;
  few : length l.spots.items ≤ l.place-index;
  room : vec_capacity l.fn.spots ≤ vec_capacity l.spots;
}
