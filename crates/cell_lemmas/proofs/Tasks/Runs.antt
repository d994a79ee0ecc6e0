-- What each turn of a routine keeps is kept by all routines together.
use Rattle.std.proofs.Common.{ℕ, zero, suc, Bool, true, false, List, [], ◌∷◌, Some}
use Rattle.cell_num.specs.declared.ids.Why.TheVariants.{Returned, Trap}
use Rattle.cell_world.specs.declared.reply.TaskState.{TaskState}
use Rattle.cell_world.specs.declared.reply.TaskState.TheVariants.{Ready, Done, Fault as Faulted}
use Rattle.cell_world.specs.World.{World, Region}
use Rattle.cell_world.specs.Running.Execute.{Seen, seen_in}
use Rattle.cell_world.specs.Running.Move.{Hart, Move, move}
use Rattle.cell_world.specs.Commands.SpawnCommand.{first_registers}
use Rattle.cell_world.specs.declared.transfer.Routine.{Routine}
use Rattle.cell_world.specs.Running.Transfer.{Addresses, Ending, Transferred, routine_column, routine_from, is_success, transferred}

-- the memory of the machine, with these regions
abbrev pub seen_with : World → List Region → Seen
seen_with w regions = record (seen_in w) { regions = regions }

module _ (w : World) (addresses : Addresses) (P : List Region → Type 0) (keeps : (regions : List Region) (h : Hart) → P regions → P (move (routine_column addresses) (seen_with w regions) h).regions) where
  routine_keeps : (n : ℕ) (regions : List Region) (h : Hart) → P regions → P (routine_from n addresses (seen_with w regions) h).regions
  routine_keeps zero regions h p = p
  routine_keeps (suc n) regions h p = go after.state (routine_keeps n after.regions after.hart q)
    where
      after : Move
      after = move (routine_column addresses) (seen_with w regions) h

      q : P after.regions
      q = keeps regions h p

      go : (state : TaskState) → P (routine_from n addresses (seen_with w after.regions) after.hart).regions
          → P (elim state as (λ _. Ending) [
            | Ready ↦ routine_from n addresses (seen_with w after.regions) after.hart
            | Done code ↦ record { why = Returned code; regions = after.regions; left = n }
            | Faulted cause pc ↦ record { why = Trap cause pc; regions = after.regions; left = n }
          ]).regions
      go Ready rest = rest
      go (Done code) rest = q
      go (Faulted cause pc) rest = q

  pub routines_keep : (n : ℕ) (regions : List Region) (stack : ℕ) (routines : List Routine) → P regions → P (transferred n addresses (seen_with w regions) stack routines).regions
  routines_keep n regions stack [] p = p
  routines_keep n regions stack (routine ∷ routines) p = go (is_success ending.why) (routines_keep ending.left ending.regions stack routines q)
    where
      ending : Ending
      ending = routine_from n addresses (seen_with w regions) (record { pc = routine.entry; registers = first_registers 0 stack })

      q : P ending.regions
      q = routine_keeps n regions (record { pc = routine.entry; registers = first_registers 0 stack }) p

      go : (b : Bool) → P (transferred ending.left addresses (seen_with w ending.regions) stack routines).regions
          → P (elim b as (λ _. Transferred) [
            | true ↦ transferred ending.left addresses (seen_with w ending.regions) stack routines
            | false ↦ record { regions = ending.regions; failure = Some (record { routine = routine.name; why = ending.why }) }
          ]).regions
      go true rest = rest
      go false rest = q
