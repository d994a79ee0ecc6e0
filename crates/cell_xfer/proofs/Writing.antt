-- Writes to a memory, one after the other.
use Rattle.std.proofs.Common.{◌≡◌, refl, sym, ap, subst, ◌∙◌, arith, ℕ, ◌+◌, ◌*◌, ◌≤◌, List, [], ◌∷◌, ◌++◌, Option, Some, None, is_some, true, length}
use Rattle.cell_world.specs.declared.transfer.Record.{Record}
use Rattle.std.specs.Prelude.{IfSome}
use Rattle.std.proofs.lemmas.List.{length-append}
use Rattle.cell_world.specs.World.{Region}
use Rattle.cell_world.specs.Running.Execute.{Effect, Goes, Calls, Traps, Seen, execute}
use Rattle.cell_world.specs.Running.Undo.{Write, ArePuts, IsPut, put_in, puts, record_of}
use Rattle.cell_hart.specs.declared.hart.Hart.{Hart as LiveHart}
use Rattle.cell_hart.specs.declared.stop.Stop.{Stop}
use Rattle.cell_hart.specs.Step.{Steps, seen_of, written_by}
use Rattle.cell_hart.proofs.Puts.{stores_are_puts}
use Rattle.cell_hart.proofs.Stores.{ByStore}
use Rattle.cell_mem.specs.State.{HasWrites, MemoryState, is_sealed, written_at}
use Rattle.cell_mem.specs.Undo.{UndoState, noted}
use Rattle.cell_xfer.specs.Written.{HasWritten, all_written}

all_more : (m : MemoryState) (xs ys : List Write) → all_written m (xs ++ ys) ≡ all_written (all_written m xs) ys
all_more m [] ys = refl
all_more m (x ∷ xs) ys = all_more (written_at m x.addr x.width x.value) xs ys

all_puts : (m : MemoryState) (xs : List Write) → (all_written m xs).regions ≡ puts m.regions xs
all_puts m [] = refl
all_puts m (x ∷ xs) = all_puts (written_at m x.addr x.width x.value) xs

puts_more : (regions : List Region) (xs ys : List Write) → ArePuts regions xs → ArePuts (puts regions xs) ys → ArePuts regions (xs ++ ys)
puts_more regions [] ys p q = q
puts_more regions (x ∷ xs) ys p q = (p.0, puts_more (put_in regions x) xs ys p.1 q)

pub none_written : (m : MemoryState) (most : ℕ) → HasWritten m m most
none_written m most = record { writes = []; made = refl; puts = tt; few = omega arith }

pub more_written : (l m n : MemoryState) (j k most : ℕ) → HasWritten l m j → HasWritten m n k → j + k ≤ most → HasWritten l n most
more_written l m n j k most first later le = record {
  writes = first.writes ++ later.writes;
  made = later.made ∙ ap (λ (x : MemoryState). all_written x later.writes) first.made ∙ sym (all_more l first.writes later.writes);
  puts = puts_more l.regions first.writes later.writes first.puts
      (subst (λ (rs : List Region). ArePuts rs later.writes) (ap (λ (x : MemoryState). x.regions) first.made ∙ all_puts l first.writes) later.puts);
  few = omega (arith, le, first.few, later.few, length-append first.writes later.writes);
}

-- the seals stay
all_seen : (m : MemoryState) (xs : List Write) → seen_of (all_written m xs) ≡ record (seen_of m) { regions = (all_written m xs).regions }
all_seen m [] = refl
all_seen m (x ∷ xs) = all_seen (written_at m x.addr x.width x.value) xs

pub written_seen : (m n : MemoryState) (most : ℕ) → HasWritten m n most → seen_of n ≡ record (seen_of m) { regions = n.regions }
written_seen m n most w =
    ap seen_of w.made ∙ all_seen m w.writes ∙ ap (λ (rs : List Region). let s : Seen = record { regions = rs; is_sealed = λ addr k. is_sealed m addr k } in s) (sym (ap (λ (x : MemoryState). x.regions) w.made))

-- the space stays
all_space : (m : MemoryState) (xs : List Write) → ((all_written m xs).base ≡ m.base) × ((all_written m xs).pages ≡ m.pages)
all_space m [] = (refl, refl)
all_space m (x ∷ xs) = all_space (written_at m x.addr x.width x.value) xs

pub written_space : (m n : MemoryState) (most : ℕ) → HasWritten m n most → n.base + 4096 * n.pages ≡ m.base + 4096 * m.pages
written_space m n most w =
    let same = all_space m w.writes in
    ap (λ (x : MemoryState). x.base + 4096 * x.pages) w.made
    ∙ ap (λ base. base + 4096 * (all_written m w.writes).pages) same.0
    ∙ ap (λ pages. m.base + 4096 * pages) same.1

-- an undo that is begun stays so
noted_stays : (undo : Option UndoState) (x : Record) → is_some undo ≡ true → is_some (noted x undo) ≡ true
noted_stays None x e = absurd cc
noted_stays (Some u) x e = refl

all_begun : (m : MemoryState) (xs : List Write) → is_some m.undo ≡ true → is_some (all_written m xs).undo ≡ true
all_begun m [] e = e
all_begun m (x ∷ xs) e = all_begun (written_at m x.addr x.width x.value) xs (noted_stays m.undo (record_of m.regions x) e)

pub still_begun : (m n : MemoryState) (most : ℕ) → HasWritten m n most → is_some m.undo ≡ true → is_some n.undo ≡ true
still_begun m n most w e = ap (λ (x : MemoryState). is_some x.undo) w.made ∙ all_begun m w.writes e

-- each write takes one of those that are left
left_after : (undo : Option UndoState) (x : Write) (regions : List Region) (k : ℕ) → IfSome undo (λ u. k + 1 ≤ u.left) → IfSome (noted (record_of regions x) undo) (λ u. k ≤ u.left)
left_after None x regions k h = tt
left_after (Some u) x regions k h = omega (arith, h)

fewer_left : (undo : Option UndoState) (j k : ℕ) → k ≤ j → IfSome undo (λ u. j ≤ u.left) → IfSome undo (λ u. k ≤ u.left)
fewer_left None j k le h = tt
fewer_left (Some u) j k le h = omega (arith, h, le)

all_left : (m : MemoryState) (xs : List Write) (k : ℕ) → HasWrites m (k + length xs) → HasWrites (all_written m xs) k
all_left m [] k h = fewer_left m.undo (k + 0) k (omega arith) h
all_left m (x ∷ xs) k h =
    all_left (written_at m x.addr x.width x.value) xs k
    (left_after m.undo x m.regions (k + length xs) (fewer_left m.undo (k + length (x ∷ xs)) (k + length xs + 1) (omega arith) h))

pub writes_left : (m n : MemoryState) (most k budget : ℕ) → HasWritten m n most → most + k ≤ budget → HasWrites m budget → HasWrites n k
writes_left m n most k budget w le h =
    subst (λ (x : MemoryState). HasWrites x k) (sym w.made)
    (all_left m w.writes k (fewer_left m.undo budget (k + length w.writes) (omega (arith, w.few, le)) h))

-- what a store writes
store_written : (m : MemoryState) (store : Option Write) → IfSome store (IsPut m.regions) → HasWritten m (written_by store m) 1
store_written m None p = none_written m 1
store_written m (Some x) p = record { writes = x ∷ []; made = refl; puts = (p, tt); few = omega arith }

effect_written : (stop : Stop) (e : Effect) (before after : LiveHart) (old new : MemoryState)
    → Steps stop e before after old new → ByStore (λ store. IfSome store (IsPut old.regions)) e → HasWritten old new 1
effect_written stop (Goes registers pc store) before after old new s p = subst (λ (x : MemoryState). HasWritten old x 1) (sym s.3) (store_written old store p)
effect_written stop Calls before after old new s p = subst (λ (x : MemoryState). HasWritten old x 1) (sym s.1.2) (none_written old 1)
effect_written stop (Traps cause) before after old new s p = subst (λ (x : MemoryState). HasWritten old x 1) (sym s.1.2) (none_written old 1)

pub step_written : (stop : Stop) (before after : LiveHart) (old new : MemoryState)
    → Steps stop (execute (seen_of old) before.x before.pc) before after old new → HasWritten old new 1
step_written stop before after old new s =
    effect_written stop (execute (seen_of old) before.x before.pc) before after old new s (stores_are_puts (seen_of old) before.x before.pc)
