use Rattle.cell_world.specs.declared.state.SecPlace.{SecPlace}
use Rattle.cell_link.proofs.FirstLemmas.{first_number}
use Rattle.cell_link.proofs.places.starts_of.Goals as goal

pub loop-place-preserved : goal.loop-place-preserved
loop-place-preserved c =
    first_number (λ (p : SecPlace). p.section) (λ p. p.start) c.args.places.now c.loop-place.place-index (record { section = 0; start = 0 }) _ _ c.loop-place-test.true c.loop-place.invariant c.in_ok-insert_first.ensures.first
