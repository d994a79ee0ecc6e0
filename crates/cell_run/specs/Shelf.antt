-- What a shelf is by its system.
--     ActsOn old command answer new       the system that is there gave that answer
--     shelf_tells                         so it goes on as it tells
use Rattle.std.specs.Prelude.{◌≡◌, Option, None, Some, IsSomeAnd, unwrap_or}
use Rattle.std.proofs.Common.{ap, subst}
use Rattle.cell_world.specs.declared.command.Command.{Command}
use Rattle.cell_system.specs.State.{State}
use Rattle.cell_run.specs.Machine.{Answer, IsNext}

abbrev pub ActsOn : Option State → Command → Answer → Option State → Type 0
ActsOn (Some old) command answer (Some new) = IsNext old command answer new
ActsOn _ command answer _ = ⊥

pub shelf_tells : (old new : Option State) (command : Command) (answer : Answer) (s : State) → old ≡ Some s → ActsOn old command answer new → IsSomeAnd new (IsNext s command answer)
shelf_tells (Some x) (Some t) command answer s e h = subst (λ (y : State). IsNext y command answer t) (ap (λ o. unwrap_or o x) e) h
shelf_tells (Some x) None command answer s e h = absurd h
shelf_tells None new command answer s e h = absurd h
