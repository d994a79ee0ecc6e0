-- What writes leave of the writes of an undo.
use Rattle.std.proofs.Common.{◌≡◌, ℕ, ◌≤◌, ◌-◌, Option, Some, None, Ok, Err, Result, false, refl, sym, ap, ◌∙◌, subst, arith}
use Rattle.std.specs.Prelude.{OnOk, OnErr, IfSome, is_some}
use Rattle.cell_world.specs.declared.transfer.Record.{Record}
use Rattle.cell_world.specs.Running.Undo.{put_in, record_of}
use Rattle.cell_mem.specs.declared.fault.MemFault.{MemFault}
use Rattle.cell_mem.specs.Access.{Checked, ◌>>◌, storable, stored}
use Rattle.cell_mem.specs.State.{MemoryState, HasWrites, write_at, written_at}
use Rattle.cell_mem.specs.Undo.{UndoState, noted}

-- a store that succeeds takes one of the writes
pub stored_takes : (old new : MemoryState) (addr width value : ℕ) → stored old addr width value ≡ Ok new → new.undo ≡ noted (record_of old.regions (write_at addr width value)) old.undo
stored_takes old new addr width value e = go (storable old addr width) e
  where
    go : (r : Checked (Unit {0})) → (r >> Ok (written_at old addr width value)) ≡ Ok new → new.undo ≡ noted (record_of old.regions (write_at addr width value)) old.undo
    go (Ok u) e = let same : written_at old addr width value ≡ new = cc in ap (λ m. m.undo) (sym same)
    go (Err fault) e = absurd cc

-- while no undo is begun, none is after a store
pub still_none : (old new : MemoryState) (addr width value : ℕ) (r : Result (Unit {0}) MemFault) → old.undo ≡ None
    → OnOk r (stored old addr width value ≡ Ok new) → OnErr r (new ≡ old) → new.undo ≡ None
still_none old new addr width value (Ok u) n ok err = stored_takes old new addr width value ok ∙ ap (noted (record_of old.regions (write_at addr width value))) n
still_none old new addr width value (Err fault) n ok err = ap (λ m. m.undo) err ∙ n

-- and there are as many writes left as anybody wants
pub any_writes : (m : MemoryState) (n : ℕ) → m.undo ≡ None → HasWrites m n
any_writes m n none = subst (λ (o : Option UndoState). IfSome o (λ u. n ≤ u.left)) (sym none) tt

-- a write, with what it displaces noted before
pub noted_put : (old mid new : MemoryState) (addr width value : ℕ) (x : Record) → x ≡ record_of old.regions (write_at addr width value)
    → mid ≡ (record old { undo = noted x old.undo }) → new ≡ (record mid { regions = put_in mid.regions (write_at addr width value) }) → new ≡ written_at old addr width value
noted_put old mid new addr width value x is noting putting =
    putting
    ∙ ap (λ (m : MemoryState). let now : MemoryState = record m { regions = put_in m.regions (write_at addr width value) } in now) noting
    ∙ ap (λ (y : Record). let now : MemoryState = record old { regions = put_in old.regions (write_at addr width value); undo = noted y old.undo } in now) is

pub none_begun : (o : Option UndoState) → false ≡ is_some o → o ≡ None
none_begun None e = refl
none_begun (Some u) e = absurd cc

-- a write while no undo is begun
pub plain_put : (old new : MemoryState) (addr width value : ℕ) → old.undo ≡ None
    → new ≡ (record old { regions = put_in old.regions (write_at addr width value) }) → new ≡ written_at old addr width value
plain_put old new addr width value none putting =
    putting
    ∙ ap (λ (u : Option UndoState). let now : MemoryState = record old { regions = put_in old.regions (write_at addr width value); undo = u } in now)
    (none ∙ sym (ap (noted (record_of old.regions (write_at addr width value))) none))

-- where many writes are left, so are fewer
pub fewer_writes : (m : MemoryState) (a b : ℕ) → b ≤ a → HasWrites m a → HasWrites m b
fewer_writes m a b le has = go m.undo has
  where
    go : (o : Option UndoState) → IfSome o (λ u. a ≤ u.left) → IfSome o (λ u. b ≤ u.left)
    go None h = h
    go (Some u) h = omega (arith, h, le)

-- a write takes one of them
pub one_taken : (m : MemoryState) (x : Record) (n : ℕ) → HasWrites m n → IfSome (noted x m.undo) (λ u. n - 1 ≤ u.left)
one_taken m x n has = go m.undo has
  where
    go : (o : Option UndoState) → IfSome o (λ u. n ≤ u.left) → IfSome (noted x o) (λ u. n - 1 ≤ u.left)
    go None h = h
    go (Some u) h = omega (arith, h)

pub ruleset no_undo = (any_writes, still_none)
