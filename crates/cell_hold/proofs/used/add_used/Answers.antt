use Rattle.std.proofs.Common.{◌∙◌, arith, List, refl, subst, sym}
use Rattle.cell_world.specs.declared.state.Placed.{Placed}
use Rattle.cell_hold.specs.declared.spots.Spot.{Spot}
use Rattle.cell_hold.specs.Adds.{Adds}
use Rattle.cell_hold.specs.Spots.{places_of}
use Rattle.cell_hold.specs.Uses.{Uses}
use Rattle.cell_hold.proofs.Indexing.{no_place}
use Rattle.cell_hold.proofs.Rows.{get_mapped, length_mapped}
use Rattle.cell_hold.proofs.Using.{used_at, uses_begun, uses_done, uses_more}
use Rattle.cell_hold.proofs.used.add_used.Goals as goal

pub loop-spot-init : goal.loop-spot-init
loop-spot-init c = record { uses = uses_begun _ _ _; room = refl }

pub loop-spot-preserved : goal.loop-spot-preserved
loop-spot-preserved c =
    let spots = c.spots-spot-items.result.now in
    let i = c.loop-spot.spot-index in
    record {
      uses =
          uses_more c.args.graph.now.rows c.args.into.now.room c.args.into.now.items (places_of spots) i no_place _ _ _ (omega (arith, c.loop-spot-test.true, length_mapped (λ (r : Spot). r.place) spots)) c.loop-spot.invariant.room
          c.loop-spot.invariant.uses
          (subst (λ (s : Placed). Adds (used_at c.args.graph.now.rows c.loop-spot.into.items s) c.loop-spot.into.room c.loop-spot.into.items c.add_if_used.new.into.items)
          (sym (get_mapped (λ (r : Spot). r.place) spots i (record { place = no_place; reach = 0 }))) c.add_if_used.ensures.added);
      room = c.add_if_used.ensures.room ∙ c.loop-spot.invariant.room;
    }

pub returns-clause-uses : goal.returns-clause-uses
returns-clause-uses c =
    let spots = c.spots-spot-items.result.now in
    subst (λ (places : List Placed). Uses c.args.graph.now.rows places c.args.into.now.room c.args.into.now.items c.loop-spot.into.items) c.spots-spot-items.ensures
    (uses_done c.args.graph.now.rows c.args.into.now.room c.args.into.now.items (places_of spots) c.loop-spot.spot-index _ (omega (arith, c.loop-spot-test.false, length_mapped (λ (r : Spot). r.place) spots)) c.loop-spot.invariant.uses)
