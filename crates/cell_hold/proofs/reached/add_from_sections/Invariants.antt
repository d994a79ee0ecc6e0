use Rattle.std.proofs.Common.{◌≡◌, take}
use Rattle.std.specs.List.{list_any}
use Rattle.cell_world.specs.declared.state.Placed.{Placed}
use Rattle.cell_hold.specs.Adds.{Adds}
use Rattle.cell_hold.specs.Reached.{section_leads}
use Rattle.cell_hold.proofs.reached.add_from_sections.Given as goal

abbrev pub invariant-loop-place : goal.invariant-loop-place
invariant-loop-place l = record {
  added : Adds (λ c. list_any (λ (s : Placed). section_leads l.memory l.others.items s c) (take l.place-index l.own)) l.fn.into.room l.fn.into.items l.into.items;
  room : l.into.room ≡ l.fn.into.room;
}
