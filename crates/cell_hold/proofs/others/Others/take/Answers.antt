use Rattle.std.proofs.Common.{◌∙◌, ◌≤◌, arith, ap, length, min, sym, subst, vec_capacity}
use Rattle.std.proofs.lemmas.List.Sorted.{length_permutation}
use Rattle.cell_world.specs.declared.state.Placed.{Placed}
use Rattle.cell_hold.specs.Spots.{places_of}
use Rattle.cell_hold.proofs.Opening.{unfound_by}
use Rattle.cell_hold.proofs.others.Others.take.Goals as goal

pub returns-clause-others : goal.returns-clause-others
returns-clause-others c =
    unfound_by c.args.found.now.items c.args.places.now c.put_unfound.new.sorted.items c.sort_by_start.new.places.items (places_of c.put_reaches.new.spots.items) c.put_unfound.ensures.items
    c.sort_by_start.ensures.same (c.put_reaches.ensures.places ∙ c.deref.ensures.value)

pub put_reaches-requires-clause-room : goal.put_reaches-requires-clause-room
put_reaches-requires-clause-room c =
    let room : length c.args.places.now ≤ min (vec_capacity c.self.inside.sorted) (vec_capacity c.self.inside.spots) = subst (λ v. length c.args.places.now ≤ v.room) (sym c.self.view_is) c.requires in
    let same = ap (length {A = Placed}) c.deref.ensures.value in
    let moved = length_permutation c.put_unfound.new.sorted.items c.sort_by_start.new.places.items c.sort_by_start.ensures.same in
    omega (arith, room, same, moved, c.put_unfound.ensures.few)
