-- Routines on a stack of their own: once the stack is gone again, an undo gives back what was there before.
use Rattle.std.proofs.Common.{◌≡◌, refl, sym, ap, ap₂, subst, ◌∙◌, arith, ℕ, ◌+◌, ◌-◌, ◌*◌, ◌<◌, ◌≤◌, inl, inr, Bool, true, false, not, cond, List, [], ◌∷◌, Option, Some, None, is_some, length, map}
use Rattle.std.specs.Prelude.{All, Result, Err, find, nat_le, nat_lt, option_map, replicate, unwrap_or, ◌==◌, ◌||◌}
use Rattle.std.proofs.lemmas.Bool.{eqb-true, eq-eqb, leb-true}
use Rattle.std.proofs.lemmas.List.{length-replicate}
use Rattle.cell_num.specs.Lists.{each_pair, In}
use Rattle.cell_world.specs.declared.refusal.Refusal.{Refusal}
use Rattle.cell_world.specs.declared.transfer.Failure.{Failure}
use Rattle.cell_world.specs.declared.transfer.Routine.{Routine}
use Rattle.cell_num.specs.Limits.{stack_size}
use Rattle.cell_world.specs.World.{Permission, Region}
use Rattle.cell_world.specs.Coherent.{Shape, ends_before, shape_of}
use Rattle.cell_world.specs.Running.Execute.{Seen}
use Rattle.cell_world.specs.Placed.Layout.{permission_of}
use Rattle.cell_world.specs.declared.layout.Class.TheVariants.{Writable}
use Rattle.cell_world.specs.Running.Memory.{end_of}
use Rattle.cell_world.specs.Placed.Pages.{filled}
use Rattle.cell_world.specs.Placed.Place.{with_region}
use Rattle.cell_world.specs.Commands.SpawnCommand.{first_registers}
use Rattle.cell_world.specs.Running.Transfer.{Addresses, Transferred, is_success, routine_from, transferred}
use Rattle.cell_world.specs.Running.Turn.{without_region}
use Rattle.cell_world.specs.Running.Undo.{AreBytes, Write, journal_of, puts, record_of, undone}
use Rattle.cell_num.proofs.Elements.{All-In, In-map, all-In, filter_all, map-In}
use Rattle.cell_lemmas.proofs.Tasks.Turns.{without_new}
use Rattle.cell_lemmas.proofs.Tasks.Undone.{In-with_region, undo_all, undo_shapes, undone_start}
use Rattle.cell_lemmas.specs.Undo.{undone_in}
use Rattle.cell_hart.specs.Step.{seen_of}
use Rattle.cell_mem.specs.Index.{IsLaid}
use Rattle.cell_mem.specs.State.{MemoryState, before_in, mapped, one_more, region_from, size_of, unmapped, written_at}
use Rattle.cell_mem.specs.Undo.{UndoState, mapped_in, with_mapped, with_unmapped}
use Rattle.cell_mem.proofs.Undoing.{before_noted}
use Rattle.cell_xfer.specs.Carried.{CanCarry, Carries, IsCarried, said, with_zeros}
use Rattle.cell_xfer.specs.Named.{AnswersAs, addresses_as}
use Rattle.cell_xfer.specs.Transfers.{Transfers, failure_of}
use Rattle.cell_xfer.specs.Written.{HasWritten, all_written}
use Rattle.cell_xfer.specs.declared.carrying.Transfer.{Transfer}
use Rattle.cell_xfer.proofs.Answering.{answers_itself}
use Rattle.cell_xfer.proofs.Writing.{still_begun as still_after}
use Rattle.cell_mem.proofs.LaidApart.{laid_apart, lies_in, same_found, same_sizes}

-- writes leave all but the regions and the undo, which notes them
all_puts : (m : MemoryState) (xs : List Write) → (all_written m xs).regions ≡ puts m.regions xs
all_puts m [] = refl
all_puts m (x ∷ xs) = all_puts (written_at m x.addr x.width x.value) xs

rest_stays : (m : MemoryState) (xs : List Write) → all_written m xs ≡ record m { regions = (all_written m xs).regions; undo = (all_written m xs).undo }
rest_stays m [] = refl
rest_stays m (x ∷ xs) = rest_stays (written_at m x.addr x.width x.value) xs

-- and what the undo gives back
all_before : (m : MemoryState) (xs : List Write) → option_map (λ u. u.before) (all_written m xs).undo ≡ option_map (λ u. u.before) m.undo
all_before m [] = refl
all_before m (x ∷ xs) = all_before (written_at m x.addr x.width x.value) xs ∙ before_noted (record_of m.regions x) m.undo

before_unmapped : (start : ℕ) (o : Option UndoState) → option_map (λ u. u.before) (with_unmapped start o) ≡ option_map (without_region start) (option_map (λ u. u.before) o)
before_unmapped start None = refl
before_unmapped start (Some u) = refl

begun_unmapped : (start : ℕ) (o : Option UndoState) → is_some (with_unmapped start o) ≡ is_some o
begun_unmapped start None = refl
begun_unmapped start (Some u) = refl

some_of : {X : Type 0} (o : Option X) → is_some o ≡ true → (x : X) × (o ≡ Some x)
some_of None e = absurd cc
some_of (Some x) e = (x, refl)

-- a new region is found by its start, where no other has it
found_mapped : (r : Region) (rs : List Region) → ((s : Region) → In s rs → (s.start == r.start) ≡ false) → find (λ q. q.start == r.start) (with_region r rs) ≡ Some r
found_mapped r [] h = ap (λ b. cond b (Some r) None) (eq-eqb r.start r.start refl)
found_mapped r (s ∷ rs) h = go (nat_lt r.start s.start) (found_mapped r rs (λ q i. h q (inr i)))
  where
    go : (b : Bool) → find (λ q. q.start == r.start) (with_region r rs) ≡ Some r → find (λ q. q.start == r.start) (cond b (r ∷ s ∷ rs) (s ∷ with_region r rs)) ≡ Some r
    go true e = ap (λ b. cond b (Some r) (find (λ q. q.start == r.start) (s ∷ rs))) (eq-eqb r.start r.start refl)
    go false e = ap (λ b. cond b (Some s) (find (λ q. q.start == r.start) (with_region r rs))) (h s (inl refl)) ∙ e

module _ (m : MemoryState) (t : Transfer) (can : CanCarry m t) where
  abbrev pub mid : MemoryState
  mid = with_zeros m t.stack

  module _ (kept : map shape_of (before_in m) ≡ map shape_of m.regions) (laid : IsLaid mid.base mid.regions (mid.base + 4096 * mid.pages)) (bytes : AreBytes mid.regions) (after : MemoryState) (w : HasWritten mid after t.budget) where
    elsewhere : (r : Region) → In r m.regions → (r.start == t.stack) ≡ false
    elsewhere r i = go (r.start == t.stack) refl
      where
        some : 1 ≤ length r.bytes
        some = (lies_in mid.base mid.regions (mid.base + 4096 * mid.pages) laid r (In-with_region (record { start = t.stack; permission = permission_of Writable; bytes = replicate stack_size 0 }) r m.regions i)).whole.filled

        past : (b c : Bool) → nat_le (end_of r) t.stack ≡ b → nat_le (t.stack + stack_size) r.start ≡ c → (b || c) ≡ true → r.start ≡ t.stack → ⊥
        past true c before behind one e = omega (arith, leb-true (end_of r) t.stack before, e, some)
        past false true before behind one e = omega (arith, leb-true (t.stack + stack_size) r.start behind, e)
        past false false before behind one e = absurd cc

        clash : r.start ≡ t.stack → ⊥
        clash = past (nat_le (end_of r) t.stack) (nat_le (t.stack + stack_size) r.start) refl refl (all-In (λ (q : Region). nat_le (end_of q) t.stack || nat_le (t.stack + stack_size) q.start) m.regions can.room.apart r i)

        go : (b : Bool) → (r.start == t.stack) ≡ b → b ≡ false
        go false e = refl
        go true e = absurd (clash (eqb-true r.start t.stack e))

    stack_found : region_from mid t.stack ≡ Some (record { start = t.stack; permission = permission_of Writable; bytes = replicate stack_size 0 })
    stack_found = found_mapped (record { start = t.stack; permission = permission_of Writable; bytes = replicate stack_size 0 }) m.regions elsewhere

    left_out : without_region t.stack mid.regions ≡ m.regions
    left_out =
        without_new (λ r. not (r.start == t.stack)) (record { start = t.stack; permission = permission_of Writable; bytes = replicate stack_size 0 }) m.regions (ap not (eq-eqb t.stack t.stack refl))
        ∙ filter_all (λ r. not (r.start == t.stack)) m.regions (λ r i. ap not (elsewhere r i))

    regions_are : after.regions ≡ puts mid.regions w.writes
    regions_are = ap (λ (x : MemoryState). x.regions) w.made ∙ all_puts mid w.writes

    apart : each_pair ends_before mid.regions ≡ true
    apart = laid_apart mid.base mid.regions (mid.base + 4096 * mid.pages) laid

    given_back : undone after.regions (journal_of mid.regions w.writes) ≡ mid.regions
    given_back = ap (λ rs. undone rs (journal_of mid.regions w.writes)) regions_are ∙ undo_all mid.regions w.writes apart bytes w.puts

    same_shapes : map shape_of after.regions ≡ map shape_of mid.regions
    same_shapes = sym (undo_shapes after.regions (journal_of mid.regions w.writes)) ∙ ap (map shape_of) given_back

    pub stack_there : is_some (region_from after t.stack) ≡ true
    stack_there = same_found t.stack after.regions mid.regions same_shapes ∙ ap is_some stack_found

    stack_long : size_of (region_from after t.stack) ≡ stack_size
    stack_long = same_sizes t.stack after.regions mid.regions same_shapes ∙ ap size_of stack_found ∙ length-replicate {A = ℕ} stack_size 0

    abbrev pub n : MemoryState
    n = unmapped after t.stack

    after_is : after ≡ record mid { regions = after.regions; undo = after.undo }
    after_is = subst (λ (x : MemoryState). x ≡ record mid { regions = x.regions; undo = x.undo }) (sym w.made) (rest_stays mid w.writes)

    sealed_is : n.sealed ≡ m.sealed
    sealed_is =
        ap (λ (x : MemoryState). filled x.sealed (t.stack - x.base) (size_of (region_from after t.stack)) false) after_is
        ∙ ap (λ k. filled m.sealed (t.stack - m.base) k false) stack_long
        ∙ can.unsealed

    spare_is : n.spare ≡ m.spare
    spare_is = let e = ap (λ (x : MemoryState). x.spare) after_is in let some = can.room.spare in omega (arith, e, some)

    abbrev with_all : MemoryState → List Bool → ℕ → MemoryState
    with_all x sealed spare = record x { regions = n.regions; undo = n.undo; sealed = sealed; spare = spare }

    pub rest : n ≡ record m { regions = n.regions; undo = n.undo; maps = one_more m.maps }
    rest =
        ap (λ (x : MemoryState). with_all x n.sealed n.spare) after_is
        ∙ ap (λ (sealed : List Bool). with_all mid sealed n.spare) sealed_is
        ∙ ap (λ (spare : ℕ). with_all mid m.sealed spare) spare_is

    begun : (u : UndoState) × (m.undo ≡ Some u)
    begun = some_of m.undo can.begun

    -- the stack, as an undo leaves it
    abbrev stack_back : Region
    stack_back = undone_in (record { start = t.stack; permission = permission_of Writable; bytes = replicate stack_size 0 }) begun.0.journal

    begins_there : stack_back.start ≡ t.stack
    begins_there = undone_start (record { start = t.stack; permission = permission_of Writable; bytes = replicate stack_size 0 }) begun.0.journal

    mid_begun : mid.undo ≡ Some (mapped_in (record { start = t.stack; permission = permission_of Writable; bytes = replicate stack_size 0 }) begun.0)
    mid_begun = ap (with_mapped (record { start = t.stack; permission = permission_of Writable; bytes = replicate stack_size 0 })) begun.1

    -- no region that is given back starts where the stack does
    saved_elsewhere : (r : Region) → In r begun.0.before → (r.start == t.stack) ≡ false
    saved_elsewhere r i =
        let shapes : map shape_of begun.0.before ≡ map shape_of m.regions = ap (λ (o : Option UndoState). map shape_of (unwrap_or (option_map (λ (u : UndoState). u.before) o) m.regions)) (sym begun.1) ∙ kept in
        let d = In-map shape_of m.regions (shape_of r) (subst (λ (ss : List Shape). In (shape_of r) ss) shapes (map-In shape_of begun.0.before r i)) in
        ap (λ (x : Shape). x.start == t.stack) d.2 ∙ elsewhere d.0 d.1

    pub still_begun : is_some n.undo ≡ true
    still_begun = begun_unmapped t.stack after.undo ∙ still_after mid after t.budget w (ap is_some mid_begun)

    saved_is : without_region t.stack (with_region stack_back begun.0.before) ≡ begun.0.before
    saved_is =
        without_new (λ r. not (r.start == t.stack)) stack_back begun.0.before (ap not (eq-eqb stack_back.start t.stack begins_there))
        ∙ filter_all (λ r. not (r.start == t.stack)) begun.0.before (λ r i. ap not (saved_elsewhere r i))

    saved_then : option_map (λ (u : UndoState). u.before) n.undo ≡ Some begun.0.before
    saved_then =
        before_unmapped t.stack after.undo
        ∙ ap (option_map (without_region t.stack))
        (ap (λ (x : MemoryState). option_map (λ (u : UndoState). u.before) x.undo) w.made ∙ (all_before mid w.writes ∙ ap (option_map (λ (u : UndoState). u.before)) mid_begun))
        ∙ ap (λ (rs : List Region). Some rs) saved_is

    pub goes_back : before_in n ≡ before_in m
    goes_back =
        ap (λ (o : Option (List Region)). unwrap_or o n.regions) saved_then
        ∙ sym (ap (λ (o : Option UndoState). unwrap_or (option_map (λ (u : UndoState). u.before) o) m.regions) begun.1)

    module _ (result : Result (Unit {0}) Failure)
        (answer : (old new : List (List ℕ × ℕ)) → AnswersAs t.addresses.old old → AnswersAs t.addresses.new new → Transfers t.budget (record { old = addresses_as old; new = addresses_as new }) mid t.stack t.routines.items result after) where
      carries : (given : Result (Unit {0}) Refusal) → given ≡ said t.names.items (failure_of result)
          → (old new : List (List ℕ × ℕ)) → AnswersAs t.addresses.old old → AnswersAs t.addresses.new new
          → Carries (transferred t.budget (record { old = addresses_as old; new = addresses_as new }) (seen_of mid) t.stack t.routines.items) t given n
      carries given e old new f g =
          let x = answer old new f g in
          (ap (λ (y : Transferred). without_region t.stack y.regions) x, e ∙ ap (λ (y : Transferred). said t.names.items y.failure) x)

      pub carried : (given : Result (Unit {0}) Refusal) → given ≡ said t.names.items (failure_of result) → IsCarried m t given n
      carried given e = record { back = goes_back; begun = still_begun; rest = rest; done = carries given e }

-- the routine that failed is one of them
failed_is_one : (n : ℕ) (a : Addresses) (m : Seen) (stack : ℕ) (routines : List Routine) (f : Failure) → (transferred n a m stack routines).failure ≡ Some f → (r : Routine) × In r routines × (f.routine ≡ r.name)
failed_is_one n a m stack [] f e = absurd cc
failed_is_one n a m stack (r ∷ routines) f e =
    let ending = routine_from n a m (record { pc = r.entry; registers = first_registers 0 stack }) in
    go (is_success ending.why) (failed_is_one ending.left a (record m { regions = ending.regions }) stack routines f) e
  where
    go : (b : Bool)
        → let ending = routine_from n a m (record { pc = r.entry; registers = first_registers 0 stack }) in
        ((transferred ending.left a (record m { regions = ending.regions }) stack routines).failure ≡ Some f → (q : Routine) × In q routines × (f.routine ≡ q.name))
        → (elim b as (λ _. Transferred) [
          | true ↦ transferred ending.left a (record m { regions = ending.regions }) stack routines
          | false ↦ record { regions = ending.regions; failure = Some (record { routine = r.name; why = ending.why }) }
        ]).failure ≡ Some f
        → (q : Routine) × In q (r ∷ routines) × (f.routine ≡ q.name)
    go true later e = let q = later e in (q.0, inr q.1, q.2)
    go false later e = (r, inl refl, sym (ap (λ (o : Option Failure). elim o as (λ _. ℕ) [ None ↦ 0 | Some g ↦ g.routine ]) e))

pub has_name : (n : ℕ) (a : Addresses) (m : Seen) (stack : ℕ) (routines : List Routine) (f : Failure) (count : ℕ) → (transferred n a m stack routines).failure ≡ Some f → All (λ r. r.name < count) routines → f.routine < count
has_name n a m stack routines f count e few =
    let r = failed_is_one n a m stack routines f e in
    subst (λ k. k < count) (sym r.2) (All-In (λ (q : Routine). q.name < count) routines few r.0 r.1)

-- the same of a memory that is that one
module _ (m : MemoryState) (t : Transfer) (can : CanCarry m t) (x : MemoryState) (e : x ≡ with_zeros m t.stack)
    (kept : map shape_of (before_in m) ≡ map shape_of m.regions) (laid : IsLaid x.base x.regions (x.base + 4096 * x.pages)) (bytes : AreBytes x.regions) (after : MemoryState) (w : HasWritten x after t.budget) (routines : List Routine) (r : routines ≡ t.routines.items) where
  now_laid : IsLaid m.base (mid m t can).regions (m.base + 4096 * m.pages)
  now_laid = subst (λ (y : MemoryState). IsLaid y.base y.regions (y.base + 4096 * y.pages)) e laid

  now_bytes : AreBytes (mid m t can).regions
  now_bytes = subst (λ (y : MemoryState). AreBytes y.regions) e bytes

  now_written : HasWritten (mid m t can) after t.budget
  now_written = subst (λ (y : MemoryState). HasWritten y after t.budget) e w

  pub can_unmap : is_some (region_from after t.stack) ≡ true
  can_unmap = stack_there m t can kept now_laid now_bytes after now_written

  -- what the routines leave, with any rows that the tables answer as
  abbrev AreLeft : Result (Unit {0}) Failure → MemoryState → List Routine → Type 0
  AreLeft result y rs =
      (old new : List (List ℕ × ℕ)) → AnswersAs t.addresses.old old → AnswersAs t.addresses.new new → Transfers t.budget (record { old = addresses_as old; new = addresses_as new }) y t.stack rs result after

  pub carried_over : (result : Result (Unit {0}) Failure) (given : Result (Unit {0}) Refusal) (left : MemoryState) → left ≡ unmapped after t.stack → AreLeft result x routines → given ≡ said t.names.items (failure_of result) → IsCarried m t given left
  carried_over result given left l answer f =
      subst (λ (y : MemoryState). IsCarried m t given y) (sym l) (carried m t can kept now_laid now_bytes after now_written result (subst (λ (y : MemoryState). AreLeft result y t.routines.items) e (subst (λ (rs : List Routine). AreLeft result x rs) r answer)) given f)

  pub one_failed : (f : Failure) → AreLeft (Err f) x routines → f.routine < length t.names.items
  one_failed f answer =
      has_name t.budget (record { old = addresses_as t.addresses.old; new = addresses_as t.addresses.new }) (seen_of x) t.stack routines f (length t.names.items)
      (sym (ap (λ (y : Transferred). y.failure) (answer t.addresses.old t.addresses.new (answers_itself t.addresses.old) (answers_itself t.addresses.new))))
      (subst (λ (rs : List Routine). All (λ q. q.name < length t.names.items) rs) (sym r) can.names)

pub zeros_mapped : (m : MemoryState) (t : Transfer) (can : CanCarry m t) (permission : Permission) → permission ≡ permission_of Writable → mapped m t.stack permission t.zeros.items ≡ with_zeros m t.stack
zeros_mapped m t can permission e = ap₂ (λ (p : Permission) (bytes : List ℕ). mapped m t.stack p bytes) e can.zeros
