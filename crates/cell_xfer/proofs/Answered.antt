-- Routines do the same with tables that answer the same.
use Rattle.std.proofs.Common.{◌≡◌, refl, sym, ap, ◌∙◌, ℕ, zero, suc, Bool, true, false, cond, List, [], ◌∷◌, Option, Some, None}
use Rattle.std.specs.Prelude.{◌==◌, nat_le, slice_index, unwrap_or}
use Rattle.cell_world.specs.declared.reply.TaskState.{TaskState}
use Rattle.cell_world.specs.declared.reply.TaskState.TheVariants.{Ready, Done, Fault as Faulted}
use Rattle.cell_world.specs.declared.transfer.NameAddr.{NameAddr}
use Rattle.cell_world.specs.declared.transfer.Routine.{Routine}
use Rattle.cell_world.specs.Running.Execute.{Seen, Effect, Goes, Calls, Traps, execute}
use Rattle.cell_world.specs.Running.Move.{Hart, Ends, Passes, Answers, Refuses, Move, called, move, moved_by}
use Rattle.cell_world.specs.Commands.SpawnCommand.{first_registers}
use Rattle.cell_world.specs.Running.Transfer.{Addresses, Ending, Transferred, address_named, asked, asked_name, is_success, routine_column, routine_from, transferred}
use Rattle.cell_xfer.specs.Named.{AnswersAs, addresses_as}
use Rattle.cell_xfer.specs.declared.firsts.Addresses.{Addresses as Tables}
use Rattle.cell_xfer.specs.Ran.{tables_of}
use Rattle.cell_xfer.proofs.Answering.{address_is}
use Rattle.cell_xfer.proofs.Unrolled.{after_turn, after_routine}

-- each name has the same address
abbrev SameAddresses : List NameAddr → List NameAddr → Type 0
SameAddresses table rows = (name : List ℕ) → address_named table name ≡ address_named rows name

asked_as : (table rows : List NameAddr) (name : Option (List ℕ)) → SameAddresses table rows → asked table name ≡ asked rows name
asked_as table rows None same = refl
asked_as table rows (Some name) same = ap Answers (same name)

module _ (a b : Addresses) (old : SameAddresses a.old b.old) (new : SameAddresses a.new b.new) where
  column_as : (m : Seen) (registers : List ℕ) → routine_column a m registers ≡ routine_column b m registers
  column_as m registers =
      let number : ℕ = slice_index registers 17 in
      let name : Option (List ℕ) = asked_name m (slice_index registers 10) (slice_index registers 11) in
      ap (λ row. cond (number == 0) Ends (cond (nat_le number 3) Passes (cond (number == 4) row (cond (number == 5) (asked a.new name) Refuses)))) (asked_as a.old b.old name old)
      ∙ ap (λ row. cond (number == 0) Ends (cond (nat_le number 3) Passes (cond (number == 4) (asked b.old name) (cond (number == 5) row Refuses)))) (asked_as a.new b.new name new)

  by_effect : (m : Seen) (h : Hart) (e : Effect) → moved_by (routine_column a) m h e ≡ moved_by (routine_column b) m h e
  by_effect m h (Goes registers pc store) = refl
  by_effect m h Calls = ap (called m.regions h) (column_as m h.registers)
  by_effect m h (Traps cause) = refl

  routine_as : (n : ℕ) (m : Seen) (h : Hart) → routine_from n a m h ≡ routine_from n b m h
  routine_as zero m h = refl
  routine_as (suc n) m h =
      let after : Move = move (routine_column a) m h in
      go after after.state (routine_as n (record m { regions = after.regions }) after.hart)
      ∙ ap (λ (x : Move). after_turn b m.is_sealed n x x.state) (by_effect m h (execute m h.registers h.pc))
    where
      go : (after : Move) (state : TaskState)
          → routine_from n a (record m { regions = after.regions }) after.hart ≡ routine_from n b (record m { regions = after.regions }) after.hart
          → after_turn a m.is_sealed n after state ≡ after_turn b m.is_sealed n after state
      go after Ready later = later
      go after (Done code) later = refl
      go after (Faulted cause pc) later = refl

  pub transferred_as : (n : ℕ) (m : Seen) (stack : ℕ) (routines : List Routine) → transferred n a m stack routines ≡ transferred n b m stack routines
  transferred_as n m stack [] = refl
  transferred_as n m stack (routine ∷ routines) =
      let h : Hart = record { pc = routine.entry; registers = first_registers 0 stack } in
      let ending : Ending = routine_from n a m h in
      go ending (is_success ending.why) (transferred_as ending.left (record m { regions = ending.regions }) stack routines)
      ∙ ap (λ (x : Ending). after_routine b m.is_sealed stack routine routines x (is_success x.why)) (routine_as n m h)
    where
      go : (ending : Ending) (success : Bool)
          → transferred ending.left a (record m { regions = ending.regions }) stack routines ≡ transferred ending.left b (record m { regions = ending.regions }) stack routines
          → after_routine a m.is_sealed stack routine routines ending success ≡ after_routine b m.is_sealed stack routine routines ending success
      go ending true later = later
      go ending false later = refl

same_addresses : (table rows : List (List ℕ × ℕ)) → AnswersAs table rows → SameAddresses (addresses_as table) (addresses_as rows)
same_addresses table rows same name = sym (address_is table name) ∙ ap (λ o. unwrap_or o 0) (same name) ∙ address_is rows name

-- what is so with the tables' own rows is so with any that they answer as
pub answered_as : (n : ℕ) (tables : Tables) (m : Seen) (stack : ℕ) (routines : List Routine) (x : Transferred) → x ≡ transferred n (tables_of tables) m stack routines
    → (old new : List (List ℕ × ℕ)) → AnswersAs tables.old old → AnswersAs tables.new new → x ≡ transferred n (record { old = addresses_as old; new = addresses_as new }) m stack routines
answered_as n tables m stack routines x e old new f g =
    e ∙ transferred_as (tables_of tables) (record { old = addresses_as old; new = addresses_as new }) (same_addresses tables.old old f) (same_addresses tables.new new g) n m stack routines
