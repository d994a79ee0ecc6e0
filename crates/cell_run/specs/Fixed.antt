-- What a machine of given answers does: the first of them is taken, and want of memory is the answer where none is left.
use Rattle.std.specs.Prelude.{◌≡◌, false, true, List, [], ◌∷◌, Result, Ok, Err}
use Rattle.std.proofs.Common.{sym, true≢false}
use Rattle.cell_world.specs.declared.fail.Fail.{Fail}
use Rattle.cell_world.specs.declared.fail.Fail.TheVariants.{Refused, OutOfMemory}
use Rattle.cell_world.specs.declared.reply.Reply.{Reply}
use Rattle.cell_run.specs.declared.fixed_machine.Answer.{Answer as Given}
use Rattle.cell_run.specs.declared.fixed_machine.Answer.TheVariants.{Done as DoneGiven, Refused as RefusedGiven}
use Rattle.cell_run.specs.Machine.{Answer}

abbrev pub as_given : Answer → Given
as_given (Ok reply) = DoneGiven reply
as_given (Err refusal) = RefusedGiven refusal

-- the answer is the first that was left, and the others are left
abbrev pub IsFirst : Answer → List Given → List Given → Type 0
IsFirst answer old new = old ≡ as_given answer ∷ new

abbrev pub Gives : List Given → Result Reply Fail → List Given → Type 0
Gives old (Ok reply) new = IsFirst (Ok reply) old new
Gives old (Err (Refused refusal)) new = IsFirst (Err refusal) old new
Gives old (Err OutOfMemory) new = (old ≡ []) × (new ≡ [])

pub tells_nothing : {A : Type 0} → false ≡ true → A
tells_nothing e = absurd (true≢false (sym e))
