-- The transfer routines of a swap, one after the other on one stack, with a number of turns for all together.
--     Routine                            its name, by its place in the swap's words, and its entry
--     Addresses                          the names with addresses that calls 4 and 5 ask
--     routine_column addresses           the column of a routine's calls
--     routine_from n addresses m h       a routine within n turns
--     transferred n addresses m ..       all routines within n turns
--     after_turns n w stack ..           the machine after n turns: fewer turns than the budget are the first of them
--     transfer w stack addresses ..      the machine after all routines, or the first that doesn't succeed
use Rattle.std.specs.Prelude.{ℕ, zero, suc, ◌==◌, nat_le, Bool, true, false, List, [], ◌∷◌, Option, Some, None, Result, Ok, Err, find, map, option_map, unwrap_or, slice_index, if◌then◌else◌}
use Rattle.std.specs.List.{list_all}
use Rattle.cell_num.specs.declared.ids.Why.{Why}
use Rattle.cell_num.specs.declared.ids.Why.TheVariants.{Returned, Trap, Budget}
use Rattle.cell_num.specs.Lists.{equals, from_on, where_true}
use Rattle.cell_world.specs.declared.reply.TaskState.TheVariants.{Ready, Done, Fault as Faulted}
use Rattle.cell_world.specs.declared.transfer.Failure.{Failure}
use Rattle.cell_world.specs.declared.transfer.NameAddr.{NameAddr}
use Rattle.cell_world.specs.declared.transfer.Routine.{Routine}
use Rattle.cell_world.specs.World.{World, Region}
use Rattle.cell_world.specs.Running.Execute.{Seen, seen_in, allows, number_read}
use Rattle.cell_world.specs.Running.Move.{Hart, Row, Column, Ends, Passes, Answers, Refuses, move}
use Rattle.cell_world.specs.Running.Turn.{without_region}
use Rattle.cell_world.specs.Commands.SpawnCommand.{first_registers, with_stack}

-- in the swap's order; the first row of a name counts
pub record Addresses : Type 0 where
  pub old : List NameAddr
  pub new : List NameAddr

-- the n bytes from the address on, where each can be loaded
abbrev pub bytes_loaded : List Region → ℕ → ℕ → Option (List ℕ)
bytes_loaded regions addr n =
    where_true
    (list_all (λ k. allows regions (λ p. p.read) k 1) (from_on addr n))
    (map (λ k. number_read regions k 1) (from_on addr n))

-- the name that a call asks for
abbrev pub asked_name : Seen → ℕ → ℕ → Option (List ℕ)
asked_name m addr n = elim (nat_le n 1024) [ true ↦ bytes_loaded m.regions addr n | false ↦ None ]

abbrev pub address_named : List NameAddr → List ℕ → ℕ
address_named rows name = unwrap_or (option_map (λ row. row.addr) (find (λ row. equals row.name name) rows)) 0

abbrev pub asked : List NameAddr → Option (List ℕ) → Row
asked rows None = Refuses
asked rows (Some name) = Answers (address_named rows name)

-- x17 has the number of the call: 0 ends, 1 to 3 do nothing, 4 and 5 ask for the address of the x11 bytes at x10
abbrev pub routine_column : Addresses → Column
routine_column addresses m registers =
    let number = slice_index registers 17 in
    let name = asked_name m (slice_index registers 10) (slice_index registers 11) in
    if number == 0 then Ends else
    if nat_le number 3 then Passes else
    if number == 4 then asked addresses.old name else
    if number == 5 then asked addresses.new name else Refuses

-- how a routine ended, the regions then, and how many turns are left
pub record Ending : Type 0 where
  pub why : Why
  pub regions : List Region
  pub left : ℕ

abbrev pub routine_from : ℕ → Addresses → Seen → Hart → Ending
routine_from zero addresses m h = record { why = Budget; regions = m.regions; left = 0 }
routine_from (suc n) addresses m h =
    let after = move (routine_column addresses) m h in
    elim after.state [
      | Ready ↦ routine_from n addresses (record m { regions = after.regions }) after.hart
      | Done code ↦ record { why = Returned code; regions = after.regions; left = n }
      | Faulted cause pc ↦ record { why = Trap cause pc; regions = after.regions; left = n }
    ]

abbrev pub is_success : Why → Bool
is_success (Returned code) = code == 0
is_success (Trap cause pc) = false
is_success Budget = false

-- the regions after the routines, and the first that failed
pub record Transferred : Type 0 where
  pub regions : List Region
  pub failure : Option Failure

-- each from its entry with the registers of a spawn
abbrev pub transferred : ℕ → Addresses → Seen → ℕ → List Routine → Transferred
transferred n addresses m stack [] = record { regions = m.regions; failure = None }
transferred n addresses m stack (routine ∷ routines) =
    let ending = routine_from n addresses m (record { pc = routine.entry; registers = first_registers 0 stack }) in
    elim (is_success ending.why) [
      | true ↦ transferred ending.left addresses (record m { regions = ending.regions }) stack routines
      | false ↦ record { regions = ending.regions; failure = Some (record { routine = routine.name; why = ending.why }) }
    ]

-- the machine when the routines have had n turns, or fewer where they end before; their stack is left out
abbrev pub after_turns : ℕ → World → ℕ → Addresses → List Routine → World
after_turns n w stack addresses routines =
    record w { regions = without_region stack (transferred n addresses (seen_in (with_stack w stack)) stack routines).regions }

-- the stack is four zeroed pages from that address on
abbrev pub transfer : World → ℕ → Addresses → List Routine → ℕ → Result World Failure
transfer w stack addresses routines n =
    elim (transferred n addresses (seen_in (with_stack w stack)) stack routines).failure [
      | None ↦ Ok (after_turns n w stack addresses routines)
      | Some failure ↦ Err failure
    ]
