-- A routine after one of its turns, and routines after one of them.
use Rattle.std.proofs.Common.{ℕ, Bool, true, false, List, Some}
use Rattle.cell_num.specs.declared.ids.Why.TheVariants.{Returned, Trap}
use Rattle.cell_world.specs.declared.reply.TaskState.{TaskState}
use Rattle.cell_world.specs.declared.reply.TaskState.TheVariants.{Ready, Done, Fault as Faulted}
use Rattle.cell_world.specs.declared.transfer.Routine.{Routine}
use Rattle.cell_world.specs.Running.Move.{Move}
use Rattle.cell_world.specs.Running.Transfer.{Addresses, Ending, Transferred, routine_from, transferred}

-- how the routine ends with n turns more
abbrev pub after_turn : Addresses → (ℕ → ℕ → Bool) → ℕ → Move → TaskState → Ending
after_turn a sealed n after state =
    elim state [
      | Ready ↦ routine_from n a (record { regions = after.regions; is_sealed = sealed }) after.hart
      | Done code ↦ record { why = Returned code; regions = after.regions; left = n }
      | Faulted cause pc ↦ record { why = Trap cause pc; regions = after.regions; left = n }
    ]

-- what the others leave
abbrev pub after_routine : Addresses → (ℕ → ℕ → Bool) → ℕ → Routine → List Routine → Ending → Bool → Transferred
after_routine a sealed stack routine routines ending success =
    elim success [
      | true ↦ transferred ending.left a (record { regions = ending.regions; is_sealed = sealed }) stack routines
      | false ↦ record { regions = ending.regions; failure = Some (record { routine = routine.name; why = ending.why }) }
    ]
