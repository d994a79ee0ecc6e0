-- Routines do the same where two views of the same regions agree on the seals of what may be stored to, as long as what the
-- agreement rests on stays.
use Rattle.std.proofs.Common.{◌≡◌, refl, ap, ◌∙◌, ℕ, zero, suc, ◌≤◌, Bool, true, false, List, [], ◌∷◌}
use Rattle.cell_world.specs.declared.reply.TaskState.{TaskState}
use Rattle.cell_world.specs.declared.reply.TaskState.TheVariants.{Ready, Done, Fault as Faulted}
use Rattle.cell_world.specs.declared.transfer.Routine.{Routine}
use Rattle.cell_world.specs.World.{Region}
use Rattle.cell_world.specs.Running.Execute.{Effect, Goes, Calls, Traps, allows, execute}
use Rattle.cell_world.specs.Running.Move.{Hart, Move, move, moved_by}
use Rattle.cell_world.specs.Commands.SpawnCommand.{first_registers}
use Rattle.cell_world.specs.Running.Transfer.{Addresses, Ending, is_success, routine_column, routine_from, transferred}
use Rattle.cell_hart.proofs.Alike.{execute_alike, seen}
use Rattle.cell_xfer.proofs.Unrolled.{after_turn, after_routine}

module _ (a : Addresses) (f g : ℕ → ℕ → Bool) (P : List Region → Type 0)
    (kept : (regions : List Region) (h : Hart) → P regions → P (move (routine_column a) (seen regions f) h).regions)
    (agree : (regions : List Region) → P regions → (addr n : ℕ) → 1 ≤ n → allows regions (λ p. p.write) addr n ≡ true → f addr n ≡ g addr n) where
  by_effect : (regions : List Region) (h : Hart) (e : Effect) → moved_by (routine_column a) (seen regions f) h e ≡ moved_by (routine_column a) (seen regions g) h e
  by_effect regions h (Goes registers pc store) = refl
  by_effect regions h Calls = refl
  by_effect regions h (Traps cause) = refl

  move_alike : (regions : List Region) (h : Hart) → P regions → move (routine_column a) (seen regions f) h ≡ move (routine_column a) (seen regions g) h
  move_alike regions h p =
      by_effect regions h (execute (seen regions f) h.registers h.pc)
      ∙ ap (moved_by (routine_column a) (seen regions g) h) (execute_alike regions f g (agree regions p) h.registers h.pc)

  routine_alike : (n : ℕ) (regions : List Region) (h : Hart) → P regions
      → (routine_from n a (seen regions f) h ≡ routine_from n a (seen regions g) h) × P (routine_from n a (seen regions f) h).regions
  routine_alike zero regions h p = (refl, p)
  routine_alike (suc n) regions h p =
      let after : Move = move (routine_column a) (seen regions f) h in
      let both = go after after.state (kept regions h p) (routine_alike n after.regions after.hart (kept regions h p)) in
      (both.0 ∙ ap (λ (x : Move). after_turn a g n x x.state) (move_alike regions h p), both.1)
    where
      go : (after : Move) (state : TaskState) → P after.regions
          → (routine_from n a (seen after.regions f) after.hart ≡ routine_from n a (seen after.regions g) after.hart) × P (routine_from n a (seen after.regions f) after.hart).regions
          → (after_turn a f n after state ≡ after_turn a g n after state) × P (after_turn a f n after state).regions
      go after Ready q later = later
      go after (Done code) q later = (refl, q)
      go after (Faulted cause pc) q later = (refl, q)

  pub transferred_alike : (n : ℕ) (regions : List Region) (stack : ℕ) (routines : List Routine) → P regions
      → transferred n a (seen regions f) stack routines ≡ transferred n a (seen regions g) stack routines
  transferred_alike n regions stack [] p = refl
  transferred_alike n regions stack (routine ∷ routines) p =
      let h : Hart = record { pc = routine.entry; registers = first_registers 0 stack } in
      let same = routine_alike n regions h p in
      let ending : Ending = routine_from n a (seen regions f) h in
      go ending (is_success ending.why) (transferred_alike ending.left ending.regions stack routines same.1)
      ∙ ap (λ (x : Ending). after_routine a g stack routine routines x (is_success x.why)) same.0
    where
      go : (ending : Ending) (success : Bool)
          → transferred ending.left a (seen ending.regions f) stack routines ≡ transferred ending.left a (seen ending.regions g) stack routines
          → after_routine a f stack routine routines ending success ≡ after_routine a g stack routine routines ending success
      go ending true later = later
      go ending false later = refl
