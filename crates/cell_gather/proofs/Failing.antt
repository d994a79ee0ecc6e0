-- A step that is refused is where all stops.
use Rattle.std.proofs.Common.{◌≡◌, ◌∙◌, ap}
use Rattle.cell_world.specs.Outcome.{Outcome, ◌>>◌}
use Rattle.cell_world.specs.declared.fail.Fail.{Fail}
use Rattle.cell_world.specs.declared.fail.Fail.TheVariants.{Refused, OutOfMemory}
use Rattle.cell_world.specs.Following.{FailsAs}

pub then_fails : {X Y : Type 0} (fail : Fail) (o : Outcome X) (more : Outcome Y) → FailsAs fail o → FailsAs fail (o >> more)
then_fails (Refused r) o more e = ap (λ p. p >> more) e
then_fails OutOfMemory o more e = tt

pub fails_same : {X : Type 0} (fail : Fail) (o p : Outcome X) → p ≡ o → FailsAs fail o → FailsAs fail p
fails_same (Refused r) o p same e = same ∙ e
fails_same OutOfMemory o p same e = tt
