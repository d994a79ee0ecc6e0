use Rattle.std.proofs.Common.{ℕ, ◌∙◌}
use Rattle.cell_world.specs.Kept.{is_inside}
use Rattle.cell_hold.specs.declared.spots.Spot.{Spot}
use Rattle.cell_hold.proofs.Adding.{added_all, added_next}
use Rattle.cell_hold.proofs.Indexing.{no_place}
use Rattle.cell_hold.proofs.words.add_at.Goals as goal

pub loop-spot-preserved : goal.loop-spot-preserved
loop-spot-preserved c = record {
  added =
      added_next (λ (r : Spot). λ (k : ℕ). is_inside k c.args.word r.place) c.args.spots.now c.loop-spot.spot-index (record { place = no_place; reach = 0 }) _ _ _ _ _ c.loop-spot-test.true
      c.loop-spot.invariant.room c.loop-spot.invariant.added c.add_if_at.ensures.added;
  room = c.add_if_at.ensures.room ∙ c.loop-spot.invariant.room;
}

pub returns-clause-added : goal.returns-clause-added
returns-clause-added c = added_all (λ (r : Spot). λ (k : ℕ). is_inside k c.args.word r.place) c.args.spots.now c.loop-spot.spot-index _ _ _ c.loop-spot-test.false c.loop-spot.invariant.added
