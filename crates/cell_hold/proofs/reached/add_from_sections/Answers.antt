use Rattle.std.proofs.Common.{ℕ, ◌∙◌}
use Rattle.cell_world.specs.declared.state.Placed.{Placed}
use Rattle.cell_hold.specs.Reached.{section_leads}
use Rattle.cell_hold.proofs.Adding.{added_next}
use Rattle.cell_hold.proofs.Indexing.{no_place}
use Rattle.cell_hold.proofs.Reaching.{own_added}
use Rattle.cell_hold.proofs.reached.add_from_sections.Goals as goal

pub loop-place-preserved : goal.loop-place-preserved
loop-place-preserved c = record {
  added =
      added_next (λ (s : Placed). λ (k : ℕ). section_leads c.args.memory.now c.args.others.now.items s k) c.own_near-next.result.0.now c.loop-place.place-index no_place _ _ _ _ _ c.loop-place-test.true
      c.loop-place.invariant.room c.loop-place.invariant.added c.add_from_section.ensures.added;
  room = c.add_from_section.ensures.room ∙ c.loop-place.invariant.room;
}

pub returns-clause-added : goal.returns-clause-added
returns-clause-added c =
    own_added c.args.memory.now c.args.places.now c.own_near-next.result.0.now c.args.cell.0 c.own_near-next.ensures c.args.others.now.items c.loop-place.place-index _ _ _ c.loop-place-test.false c.loop-place.invariant.added
