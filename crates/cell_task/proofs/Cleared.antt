-- Each store of a stack that is being cleared succeeds, and clears eight bytes more.
use Rattle.std.proofs.Common.{◌≡◌, sym, ◌∙◌, ap, subst, arith, ℕ, suc, ◌+◌, ◌-◌, ◌*◌, ◌≤◌, ◌<◌, Bool, true, false, not, List, length, map, replicate, Option, Some, None, Ok, Err}
use Rattle.std.specs.Prelude.{nat_le, ◌%◌, option_and_then}
use Rattle.std.proofs.lemmas.Bool.{eq-eqb, le-leb}
use Rattle.std.proofs.lemmas.List.{length-replicate}
use Rattle.cell_num.specs.Lists.{In, where_true}
use Rattle.cell_num.specs.Limits.{stack_size}
use Rattle.cell_num.proofs.Elements.{found-In, find_there, map-In}
use Rattle.cell_lemmas.proofs.Fields.Patches.{length-pasted}
use Rattle.cell_lemmas.proofs.Fields.Writes.{covered, written_in}
use Rattle.cell_world.specs.Running.Memory.{covers, end_of, put_in}
use Rattle.cell_world.specs.World.{Permission, Region}
use Rattle.cell_mem.specs.declared.fault.MemFault.{MemFault}
use Rattle.cell_mem.specs.declared.fault.MemFault.TheVariants.{Denied, Misaligned, Sealed, Unmapped}
use Rattle.cell_mem.specs.Access.{Checked, ◌>>=◌, ◌>>◌, found, need, storable, stored}
use Rattle.cell_mem.specs.Index.{IsLaid}
use Rattle.cell_mem.specs.Undo.{UndoState, noted}
use Rattle.cell_mem.specs.State.{MemoryState, region_of, region_with, is_sealed, write_at, written_at}
use Rattle.cell_mem.proofs.LaidApart.{covers_alone, laid_apart, lies_in}
use Rattle.cell_world.specs.Running.Undo.{record_of}
use Rattle.cell_task.specs.Clearing.{CanClear, with_cleared, zeroed, zeroed_in}
use Rattle.cell_task.proofs.Zeroing.{none_yet, zeros_one_more}

-- eight bytes of a region that may be written and has no seal there, from a multiple of 8 on
module _ (m : MemoryState) (high : ℕ) (laid : IsLaid m.base m.regions high) (q : Region) (i : In q m.regions) (addr : ℕ) (low : q.start ≤ addr) (ends : addr + 8 ≤ q.start + length q.bytes) (aligned : addr % 8 ≡ 0)
    (write : q.permission.write ≡ true) (unsealed : is_sealed m addr 8 ≡ false) where
  there : region_of m addr ≡ Some q
  there =
      let c : covers q addr ≡ true = covered q addr low (omega (arith, ends)) in
      let f = find_there (λ (r : Region). covers r addr) m.regions q i c in
      let g = found-In (λ (r : Region). covers r addr) m.regions f.0 f.1 in
      f.1 ∙ ap (λ (r : Region). let o : Option Region = Some r in o) (covers_alone m.base m.regions high addr laid f.0 q g.0 i g.1 c)

  held : region_with m addr 8 ≡ Some q
  held =
      ap (λ (o : Option Region). option_and_then (λ r. where_true (nat_le (addr + 8) (end_of r)) r) o) there
      ∙ ap (λ (b : Bool). where_true b q) (le-leb (addr + 8) (end_of q) ends)

  abbrev after_region : Region → Checked (Unit {0})
  after_region r = need r.permission.write Denied >> need (not (is_sealed m addr 8)) Sealed

  pub may_store : storable m addr 8 ≡ Ok tt
  may_store =
      ap (λ (b : Bool). (need b Misaligned >> found (region_with m addr 8) Unmapped) >>= after_region) (eq-eqb (addr % 8) 0 aligned)
      ∙ (ap (λ (o : Option Region). found o Unmapped >>= after_region) held
      ∙ (ap (λ (b : Bool). need b Denied >> need (not (is_sealed m addr 8)) Sealed) write
      ∙ ap (λ (b : Bool). need (not b) Sealed) unsealed))

-- where the tests pass, a store doesn't fail
pub no_fault : (m : MemoryState) (addr : ℕ) (fault : MemFault) → storable m addr 8 ≡ Ok tt → stored m addr 8 0 ≡ Err fault → ⊥
no_fault m addr fault allowed e = apart (sym (ap (λ (o : Checked (Unit {0})). o >> (let y : Checked MemoryState = Ok (written_at m addr 8 0) in y)) allowed) ∙ e)
  where
    apart : (let y : Checked MemoryState = Ok (written_at m addr 8 0) in y) ≡ Err fault → ⊥
    apart k = cc

pub word_stored : (m n : MemoryState) (addr : ℕ) → m.undo ≡ None → storable m addr 8 ≡ Ok tt → stored m addr 8 0 ≡ Ok n → n ≡ record m { regions = put_in m.regions (write_at addr 8 0) }
word_stored m n addr none allowed e =
    same (sym e ∙ ap (λ (o : Checked (Unit {0})). o >> (let y : Checked MemoryState = Ok (written_at m addr 8 0) in y)) allowed)
    ∙ (ap (λ (u : Option UndoState). let y : MemoryState = record m { regions = put_in m.regions (write_at addr 8 0); undo = noted (record_of m.regions (write_at addr 8 0)) u } in y) none
    ∙ ap (λ (u : Option UndoState). let y : MemoryState = record m { regions = put_in m.regions (write_at addr 8 0); undo = u } in y) (sym none))
  where
    same : (let y : Checked MemoryState = Ok n in y) ≡ Ok (written_at m addr 8 0) → n ≡ written_at m addr 8 0
    same k = cc

-- a region keeps its start, its length and its permission while zeros come into it
module _ (stack n : ℕ) (r : Region) (start : r.start ≡ stack) (size : length r.bytes ≡ stack_size) (few : n ≤ stack_size) where
  begins : covers r stack ≡ true
  begins = covered r stack (omega (arith, start)) (omega (arith, start, size))

  pub zeroed_start : (zeroed stack n r).start ≡ stack
  zeroed_start = ap (λ (x : Region). x.start) (written_in r stack (replicate n 0) begins) ∙ start

  pub zeroed_write : (zeroed stack n r).permission ≡ r.permission
  zeroed_write = ap (λ (x : Region). x.permission) (written_in r stack (replicate n 0) begins)

  pub zeroed_size : length (zeroed stack n r).bytes ≡ stack_size
  zeroed_size =
      ap (λ (x : Region). length x.bytes) (written_in r stack (replicate n 0) begins)
      ∙ (length-pasted r.bytes (replicate n 0) (stack - r.start) (omega (arith, start, size, few, length-replicate {A = ℕ} n 0)) ∙ size)

-- the k-th eight bytes, once those before are cleared
module _ (m : MemoryState) (high : ℕ) (laid : IsLaid m.base m.regions high) (stack : ℕ) (can : CanClear m stack) where
  pub word_open : (k : ℕ) → k < 2048 → (n : MemoryState) (top : ℕ) → IsLaid n.base n.regions top → n ≡ zeroed_in m stack k → storable n (stack + 8 * k) 8 ≡ Ok tt
  word_open k few n top still is = subst (λ (x : MemoryState). storable x (stack + 8 * k) 8 ≡ Ok tt) (sym is)
      (may_store (zeroed_in m stack k) top (subst (λ (x : MemoryState). IsLaid x.base x.regions top) is still) (zeroed stack (8 * k) can.region)
      (map-In (zeroed stack (8 * k)) m.regions can.region can.there) (stack + 8 * k)
      (omega (arith, zeroed_start stack (8 * k) can.region can.start can.size low))
      (omega (arith, zeroed_start stack (8 * k) can.region can.start can.size low, zeroed_size stack (8 * k) can.region can.start can.size low, few))
      (omega (arith, can.start, (lies_in m.base m.regions high laid can.region can.there).whole.aligned))
      (ap (λ (p : Permission). p.write) (zeroed_write stack (8 * k) can.region can.start can.size low) ∙ can.write)
      (can.unsealed k few))
    where
      low : 8 * k ≤ stack_size
      low = omega (arith, few)

  pub word_cleared : (k : ℕ) → k < 2048 → (n l : MemoryState) → n ≡ zeroed_in m stack k → l ≡ record n { regions = put_in n.regions (write_at (stack + 8 * k) 8 0) } → l ≡ zeroed_in m stack (suc k)
  word_cleared k few n l is wrote =
      wrote
      ∙ (ap (λ (x : MemoryState). let y : MemoryState = record x { regions = put_in x.regions (write_at (stack + 8 * k) 8 0) } in y) is
      ∙ ap (λ (rs : List Region). let y : MemoryState = record m { regions = rs } in y)
      (zeros_one_more stack k few m.regions can.region (laid_apart m.base m.regions high laid) can.there can.start can.size))

  pub none_cleared : m ≡ zeroed_in m stack 0
  none_cleared = ap (λ (rs : List Region). let y : MemoryState = record m { regions = rs } in y) (sym (none_yet stack m.regions))

  pub all_cleared : (k : ℕ) → 2048 ≤ k → k ≤ 2048 → (n : MemoryState) → n ≡ zeroed_in m stack k → n ≡ with_cleared m stack
  all_cleared k enough most n is = is ∙ ap (zeroed_in m stack) (let e : k ≡ 2048 = omega (arith, enough, most) in e)
