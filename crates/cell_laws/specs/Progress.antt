-- A transfer turn by turn.
--     Running                              it has a turn to come: over which memory, of which routine, by which hart
--     Progress                             it runs, or it has ended
--     starts stack regions routines        what comes once the routines before these have ended well
--     turned addresses m stack p           one turn further
--     progress_after n addresses m ..      how far it has come after n turns
--     cut_off p                            what is told of a transfer that gets no more turns
use Rattle.std.specs.Prelude.{ℕ, zero, suc, ◌==◌, List, [], ◌∷◌, Some, None, if◌then◌else◌}
use Rattle.cell_num.specs.declared.ids.Why.{Why}
use Rattle.cell_num.specs.declared.ids.Why.TheVariants.{Budget, Returned, Trap}
use Rattle.cell_world.specs.declared.reply.TaskState.TheVariants.{Ready, Done, Fault as Faulted}
use Rattle.cell_world.specs.declared.transfer.Routine.{Routine}
use Rattle.cell_world.specs.World.{Region}
use Rattle.cell_world.specs.Running.Execute.{Seen}
use Rattle.cell_world.specs.Running.Move.{Hart, Move, move}
use Rattle.cell_world.specs.Commands.SpawnCommand.{first_registers}
use Rattle.cell_world.specs.Running.Transfer.{Addresses, Transferred, routine_column}

-- before a turn: the regions, the routine that has the turn, its hart, and the routines that come after it
pub record Running : Type 0 where
  pub regions : List Region
  pub routine : Routine
  pub hart : Hart
  pub later : List Routine

pub data Progress : Type 0 where
  Runs : Running → Progress
  Ended : Transferred → Progress

abbrev pub failed_in : Routine → Why → List Region → Transferred
failed_in routine why regions = record { regions = regions; failure = Some (record { routine = routine.name; why = why }) }

-- a routine begins at its entry with the registers of a spawn
abbrev pub starts : ℕ → List Region → List Routine → Progress
starts stack regions [] = Ended (record { regions = regions; failure = None })
starts stack regions (routine ∷ later) =
    Runs (record {
      regions = regions;
      routine = routine;
      hart = record { pc = routine.entry; registers = first_registers 0 stack };
      later = later;
    })

-- the hart as its move left it has the next turn, until the routine ends
abbrev pub moved_on : ℕ → Running → Move → Progress
moved_on stack r after =
    elim after.state [
      | Ready ↦ Runs (record r { regions = after.regions; hart = after.hart })
      | Done code ↦ if code == 0 then starts stack after.regions r.later else Ended (failed_in r.routine (Returned code) after.regions)
      | Faulted cause pc ↦ Ended (failed_in r.routine (Trap cause pc) after.regions)
    ]

abbrev pub moved_in : Addresses → Seen → Running → Move
moved_in addresses m r = move (routine_column addresses) (record m { regions = r.regions }) r.hart

abbrev pub turned : Addresses → Seen → ℕ → Progress → Progress
turned addresses m stack (Runs r) = moved_on stack r (moved_in addresses m r)
turned addresses m stack (Ended t) = Ended t

abbrev pub progress_after : ℕ → Addresses → Seen → ℕ → List Routine → Progress
progress_after zero addresses m stack routines = starts stack m.regions routines
progress_after (suc n) addresses m stack routines = turned addresses m stack (progress_after n addresses m stack routines)

abbrev pub cut_off : Progress → Transferred
cut_off (Runs r) = failed_in r.routine Budget r.regions
cut_off (Ended t) = t
