use Rattle.std.proofs.Common.{◌≡◌, take}
use Rattle.std.specs.List.{list_any}
use Rattle.cell_world.specs.Kept.{is_inside}
use Rattle.cell_hold.specs.declared.spots.Spot.{Spot}
use Rattle.cell_hold.specs.Adds.{Adds}
use Rattle.cell_hold.proofs.words.add_at.Given as goal

abbrev pub invariant-loop-spot : goal.invariant-loop-spot
invariant-loop-spot l = record {
  added : Adds (λ c. list_any (λ (r : Spot). is_inside c l.word r.place) (take l.spot-index l.spots)) l.fn.into.room l.fn.into.items l.into.items;
  room : l.into.room ≡ l.fn.into.room;
}
