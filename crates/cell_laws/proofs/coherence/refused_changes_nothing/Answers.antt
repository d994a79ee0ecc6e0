use Rattle.std.proofs.Common.{◌≡◌, refl, Ok, Err}
use Rattle.cell_world.specs.declared.refusal.Refusal.{Refusal}
use Rattle.cell_world.specs.Answer.{Done}
use Rattle.cell_world.specs.Next.{answered_by, outcome_of}
use Rattle.cell_world.specs.Outcome.{Outcome}
use Rattle.cell_world.specs.World.{World}
use Rattle.cell_laws.proofs.coherence.refused_changes_nothing.Goals as goal

stays : (w : World) (o : Outcome Done) (refusal : Refusal) → (answered_by w o).answer ≡ Err refusal → (answered_by w o).world ≡ w
stays w (Ok d) refusal e = absurd cc
stays w (Err other) refusal e = refl

pub returns : goal.returns
returns c = λ sources w command refusal e. stays w (outcome_of sources w command) refusal e
