-- A routine's turns one after the other, and routines one after the other.
use Rattle.std.proofs.Common.{◌≡◌, refl, sym, ap, ◌∙◌, arith, ℕ, zero, suc, ◌+◌, ◌-◌, ◌<◌, ◌≤◌, true, false, List, [], ◌∷◌, Some, None, drop, length, get_or}
use Rattle.std.proofs.Math.Seq.{drop-cons}
use Rattle.cell_num.specs.declared.ids.Why.{Why}
use Rattle.cell_num.specs.declared.ids.Why.TheVariants.{Budget}
use Rattle.cell_world.specs.declared.reply.TaskState.{TaskState}
use Rattle.cell_world.specs.declared.reply.TaskState.TheVariants.{Ready, Done, Fault as Faulted}
use Rattle.cell_world.specs.declared.transfer.Routine.{Routine}
use Rattle.cell_world.specs.Running.Execute.{Seen}
use Rattle.cell_world.specs.Running.Move.{Hart, Move, move}
use Rattle.cell_world.specs.Commands.SpawnCommand.{first_registers}
use Rattle.cell_world.specs.Running.Transfer.{Addresses, Ending, is_success, routine_column, routine_from, transferred}
use Rattle.cell_hart.specs.declared.hart.Hart.{Hart as LiveHart}
use Rattle.cell_hart.specs.Step.{seen_of}
use Rattle.cell_mem.specs.State.{MemoryState}
use Rattle.cell_xfer.specs.declared.routines.Ended.{Ended}
use Rattle.cell_xfer.specs.Ran.{ending_of, hart_as, moved, why_of}
use Rattle.cell_xfer.specs.Written.{HasWritten}
use Rattle.cell_xfer.proofs.Unrolled.{after_turn, after_routine}
use Rattle.cell_xfer.proofs.Writing.{written_seen}

module _ (a : Addresses) (m m' : MemoryState) (h h' : LiveHart) (state : TaskState) (written : HasWritten m m' 1)
    (turn : moved m'.regions h' state ≡ move (routine_column a) (seen_of m) (hart_as h)) (turns done : ℕ) (lt : done < turns) where
  one_less : turns - done ≡ suc (turns - (done + 1))
  one_less = omega (arith, lt)

  by_turn : after_turn a (seen_of m).is_sealed (turns - (done + 1)) (moved m'.regions h' state) state ≡ routine_from (turns - done) a (seen_of m) (hart_as h)
  by_turn =
      ap (λ (x : Move). after_turn a (seen_of m).is_sealed (turns - (done + 1)) x x.state) turn
      ∙ sym (ap (λ n. routine_from n a (seen_of m) (hart_as h)) one_less)

  -- the routine goes on
  pub goes_on : why_of state ≡ None → routine_from (turns - (done + 1)) a (seen_of m') (hart_as h') ≡ routine_from (turns - done) a (seen_of m) (hart_as h)
  goes_on e = ap (λ (s : Seen). routine_from (turns - (done + 1)) a s (hart_as h')) (written_seen m m' 1 written) ∙ go state e ∙ by_turn
    where
      go : (s : TaskState) → why_of s ≡ None
          → routine_from (turns - (done + 1)) a (record (seen_of m) { regions = m'.regions }) (hart_as h') ≡ after_turn a (seen_of m).is_sealed (turns - (done + 1)) (moved m'.regions h' state) s
      go Ready e = refl
      go (Done code) e = absurd cc
      go (Faulted cause pc) e = absurd cc

  -- the routine ends
  pub ends : (why : Why) → why_of state ≡ Some why → (record { why = why; regions = m'.regions; left = turns - (done + 1) }) ≡ routine_from (turns - done) a (seen_of m) (hart_as h)
  ends why e = go state e ∙ by_turn
    where
      at : (x y : Why) → Some x ≡ Some y → (let p : Ending = record { why = y; regions = m'.regions; left = turns - (done + 1) } in p) ≡ record { why = x; regions = m'.regions; left = turns - (done + 1) }
      at x y e = let same : y ≡ x = cc in ap (λ (w : Why). let p : Ending = record { why = w; regions = m'.regions; left = turns - (done + 1) } in p) same

      go : (s : TaskState) → why_of s ≡ Some why → (record { why = why; regions = m'.regions; left = turns - (done + 1) }) ≡ after_turn a (seen_of m).is_sealed (turns - (done + 1)) (moved m'.regions h' state) s
      go Ready e = absurd cc
      go (Done code) e = at _ why e
      go (Faulted cause pc) e = at _ why e

-- no turn is left
pub no_turns : (a : Addresses) (m : Seen) (h : Hart) (n : ℕ) → n ≡ 0 → (record { why = Budget; regions = m.regions; left = 0 }) ≡ routine_from n a m h
no_turns a m h n e = sym (ap (λ k. routine_from k a m h) e)

module _ (a : Addresses) (m m' : MemoryState) (h : LiveHart) (stack left most : ℕ) (routine : Routine) (routines : List Routine) (ended : Ended)
    (pc : h.pc ≡ routine.entry) (x : h.x ≡ first_registers 0 stack) (written : HasWritten m m' most)
    (run : ending_of ended m'.regions ≡ routine_from left a (seen_of m) (hart_as h)) where
  by_routine : after_routine a (seen_of m).is_sealed stack routine routines (ending_of ended m'.regions) (is_success ended.why) ≡ transferred left a (seen_of m) stack (routine ∷ routines)
  by_routine =
      ap (λ (y : Ending). after_routine a (seen_of m).is_sealed stack routine routines y (is_success y.why))
      (run
      ∙ ap (λ k. routine_from left a (seen_of m) (record { pc = k; registers = h.x })) pc
      ∙ ap (λ xs. routine_from left a (seen_of m) (record { pc = routine.entry; registers = xs })) x)

  -- the others come next
  pub succeeded : is_success ended.why ≡ true → transferred ended.left a (seen_of m') stack routines ≡ transferred left a (seen_of m) stack (routine ∷ routines)
  succeeded e =
      ap (λ (s : Seen). transferred ended.left a s stack routines) (written_seen m m' most written)
      ∙ sym (ap (after_routine a (seen_of m).is_sealed stack routine routines (ending_of ended m'.regions)) e)
      ∙ by_routine

  -- no other comes
  pub failed : is_success ended.why ≡ false
      → (record { regions = m'.regions; failure = Some (record { routine = routine.name; why = ended.why }) }) ≡ transferred left a (seen_of m) stack (routine ∷ routines)
  failed e =
      sym (ap (after_routine a (seen_of m).is_sealed stack routine routines (ending_of ended m'.regions)) e) ∙ by_routine

-- no routine is left
pub no_routines : (n : ℕ) (a : Addresses) (m : Seen) (stack : ℕ) (routines : List Routine) → routines ≡ [] → (record { regions = m.regions; failure = None }) ≡ transferred n a m stack routines
no_routines n a m stack routines e = sym (ap (transferred n a m stack) e)

drop_past : {X : Type 0} (n : ℕ) (xs : List X) → length xs ≤ n → drop n xs ≡ []
drop_past zero [] le = refl
drop_past zero (x ∷ xs) le = absurd (omega (arith, le))
drop_past (suc n) [] le = refl
drop_past (suc n) (x ∷ xs) le = drop_past n xs (omega (arith, le))

pub none_left : (routines : List Routine) (n : ℕ) → length routines ≤ n → drop n routines ≡ []
none_left routines n le = drop_past n routines le

-- those from the n-th on
pub from_next : (routines : List Routine) (n : ℕ) (d : Routine) → n < length routines → drop n routines ≡ get_or routines n d ∷ drop (n + 1) routines
from_next routines n d lt =
    let more : suc n ≡ n + 1 = omega arith in
    drop-cons routines n d lt ∙ ap (λ k. get_or routines n d ∷ drop k routines) more
