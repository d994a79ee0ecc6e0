use Rattle.std.proofs.Common.{rules, ◌≤◌, ◌∙◌, ◌++◌, ◌∷◌, [], ap, List, get_or, sym, subst, take_all}
use Rattle.std.proofs.Math.Nat.{le-max_left, le-max_right}
use Rattle.std.proofs.lemmas.List.{take_more}
use Rattle.cell_world.specs.declared.state.Placed.{Placed}
use Rattle.cell_hold.specs.declared.spots.Spot.{Spot}
use Rattle.cell_hold.specs.Spots.{places_of}
use Rattle.cell_hold.proofs.Indexing.{no_place}
use Rattle.cell_hold.proofs.Starts.{SpotsSoFar, places_more, spot_more, spots_done}
use Rattle.cell_hold.proofs.spots.put_reaches.Goals as goal

pub loop-place-preserved : goal.loop-place-preserved
loop-place-preserved c =
    let place : Placed = get_or c.args.sorted.now c.loop-place.place-index no_place in
    let spots = c.loop-place.spots.items in
    let reach = c.loop-place.reach in
    let next = c.max-reach.result in
    record {
      places =
          ap places_of c.push_reserved.ensures.items
          ∙ (places_more spots (record { place = place; reach = next })
          ∙ (ap (λ (ps : List Placed). ps ++ place ∷ []) c.loop-place.invariant.places
          ∙ sym (take_more c.args.sorted.now c.loop-place.place-index no_place c.loop-place-test.true)));
      spots =
          subst (λ (ss : List Spot). SpotsSoFar ss next) (sym c.push_reserved.ensures.items)
          (spot_more spots place reach c.end_of.result next c.end_of.ensures
          (subst (λ n. c.end_of.result ≤ n) (sym c.max-reach.ensures) (le-max_left c.end_of.result reach))
          (subst (λ n. reach ≤ n) (sym c.max-reach.ensures) (le-max_right c.end_of.result reach))
          c.loop-place.invariant.spots);
      few = search rules;
      room = search rules;
    }

pub returns-clause-spots : goal.returns-clause-spots
returns-clause-spots c =
    spots_done c.loop-place.spots.items c.args.sorted.now c.loop-place.reach
    (c.loop-place.invariant.places ∙ take_all c.loop-place.place-index c.args.sorted.now c.loop-place-test.false) c.requires.rising c.loop-place.invariant.spots
