-- From an instruction, or a call, to a routine's turn.
use Rattle.std.proofs.Common.{◌≡◌, ◌≢◌, refl, ap, ◌∙◌, arith, ℕ, ◌≤◌, false, cond, List, [], Option, Some, None}
use Rattle.std.specs.Prelude.{◌==◌, nat_le, slice_index, slice_set}
use Rattle.std.proofs.lemmas.Bool.{ne_eqb, le-leb}
use Rattle.cell_num.specs.declared.ids.Cause.{Cause}
use Rattle.cell_world.specs.declared.reply.TaskState.TheVariants.{Fault as Faulted}
use Rattle.cell_world.specs.World.{Region}
use Rattle.cell_world.specs.Running.Memory.{Write, put_by}
use Rattle.cell_world.specs.declared.transfer.NameAddr.{NameAddr}
use Rattle.cell_world.specs.Running.Execute.{Seen, Effect, Goes, Calls, Traps, execute}
use Rattle.cell_world.specs.Running.Transfer.{Addresses, address_named, asked, asked_name, routine_column}
use Rattle.cell_world.specs.Running.Move.{Column, Hart, Row, Ends, Passes, Refuses, called, passed, gone_on, move, moved_by, state_at, stopped}
use Rattle.cell_hart.specs.declared.hart.Hart.{Hart as LiveHart}
use Rattle.cell_hart.specs.declared.stop.Stop.TheVariants.{Next, Call, Trap}
use Rattle.cell_hart.specs.Step.{Steps, seen_of, written_by}
use Rattle.cell_mem.specs.State.{MemoryState}
use Rattle.cell_xfer.specs.Ran.{hart_as, moved}

-- a call that is answered
pub answered : (regions : List Region) (h : Hart) (rows : List NameAddr) (name : List ℕ) (o : Option (List ℕ)) (address : ℕ) → Some name ≡ o → address ≡ address_named rows name
    → passed regions (record { pc = h.pc; registers = slice_set h.registers 10 address }) false [] ≡ called regions h (asked rows o)
answered regions h rows name o address e a =
    ap (λ k. passed regions (record { pc = h.pc; registers = slice_set h.registers 10 k }) false []) a ∙ ap (λ p. called regions h (asked rows p)) e

-- the calls that do nothing
pub nothing : (a : Addresses) (m : Seen) (registers : List ℕ) → 1 ≤ slice_index registers 17 → slice_index registers 17 ≤ 3 → routine_column a m registers ≡ Passes
nothing a m registers low high =
    let number : ℕ = slice_index registers 17 in
    let name : Option (List ℕ) = asked_name m (slice_index registers 10) (slice_index registers 11) in
    let others : Row = cond (number == 4) (asked a.old name) (cond (number == 5) (asked a.new name) Refuses) in
    let some : number ≢ 0 = λ e. absurd (omega (arith, low, e)) in
    ap (λ b. cond b Ends (cond (nat_le number 3) Passes others)) (ne_eqb number 0 some) ∙ ap (λ b. cond b Passes others) (le-leb number 3 high)

put_there : (m : MemoryState) (store : Option Write) → (written_by store m).regions ≡ put_by m.regions store
put_there m None = refl
put_there m (Some x) = refl

module _ (column : Column) (before after : LiveHart) (old new : MemoryState) where
  pub next_moved : Steps Next (execute (seen_of old) before.x before.pc) before after old new
      → moved new.regions after (state_at (hart_as after)) ≡ move column (seen_of old) (hart_as before)
  next_moved s = go (execute (seen_of old) before.x before.pc) s
    where
      go : (e : Effect) → Steps Next e before after old new → gone_on new.regions (hart_as after) false [] ≡ moved_by column (seen_of old) (hart_as before) e
      go (Goes registers pc store) s =
          ap (λ xs. gone_on new.regions (record { pc = after.pc; registers = xs }) false []) s.1
          ∙ ap (λ k. gone_on new.regions (record { pc = k; registers = registers }) false []) s.2
          ∙ ap (λ (rs : List Region). gone_on rs (record { pc = pc; registers = registers }) false []) (ap (λ (m : MemoryState). m.regions) s.3 ∙ put_there old store)
      go Calls s = absurd (cc (s.0))
      go (Traps cause) s = absurd (cc (s.0))

  pub call_moved : Steps Call (execute (seen_of old) before.x before.pc) before after old new
      → called new.regions (hart_as after) (column (seen_of new) after.x) ≡ move column (seen_of old) (hart_as before)
  call_moved s = go (execute (seen_of old) before.x before.pc) s
    where
      go : (e : Effect) → Steps Call e before after old new → called new.regions (hart_as after) (column (seen_of new) after.x) ≡ moved_by column (seen_of old) (hart_as before) e
      go (Goes registers pc store) s = absurd (cc (s.0))
      go Calls s =
          ap (λ xs. called new.regions (record { pc = after.pc; registers = xs }) (column (seen_of new) xs)) s.1.0
          ∙ ap (λ k. called new.regions (record { pc = k; registers = before.x }) (column (seen_of new) before.x)) s.1.1
          ∙ ap (λ (m : MemoryState). called m.regions (hart_as before) (column (seen_of m) before.x)) s.1.2
      go (Traps cause) s = absurd (cc (s.0))

  pub trap_moved : (cause : Cause) (pc : ℕ) → Steps (Trap cause pc) (execute (seen_of old) before.x before.pc) before after old new
      → moved new.regions after (Faulted cause pc) ≡ move column (seen_of old) (hart_as before)
  trap_moved cause pc s = go (execute (seen_of old) before.x before.pc) s
    where
      go : (e : Effect) → Steps (Trap cause pc) e before after old new → moved new.regions after (Faulted cause pc) ≡ moved_by column (seen_of old) (hart_as before) e
      go (Goes registers k store) s = absurd (cc (s.0))
      go Calls s = absurd (cc (s.0))
      go (Traps why) s =
          let one : cause ≡ why = cc (s.0) in
          let two : pc ≡ before.pc = cc (s.0) in
          ap (λ xs. stopped new.regions (record { pc = after.pc; registers = xs }) (Faulted cause pc)) s.1.0
          ∙ ap (λ k. stopped new.regions (record { pc = k; registers = before.x }) (Faulted cause pc)) s.1.1
          ∙ ap (λ (m : MemoryState). stopped m.regions (hart_as before) (Faulted cause pc)) s.1.2
          ∙ ap (λ k. stopped old.regions (hart_as before) (Faulted k pc)) one
          ∙ ap (λ k. stopped old.regions (hart_as before) (Faulted why k)) two
