-- Which region has the bytes of an access.
use Rattle.std.proofs.Common.{◌≡◌, ℕ, ◌+◌, ◌%◌, ◌<◌, ◌≤◌, Bool, true, false, Option, Some, None, Ok, leb, refl, sym, ap, ◌∙◌, ⊎_elim, ◌⊎◌, inl, inr, arith}
use Rattle.std.specs.Prelude.{option_map, option_and_then, is_some, IfSome, IfOk, OnOk, eqb, ◌||◌}
use Rattle.std.specs.Borrow.{Bor}
use Rattle.std.specs.Option.{ok_or}
use Rattle.std.specs.Result.{result_map_both}
use Rattle.std.proofs.lemmas.Bool.{leb-true, le-leb, false≢true, or_cases, eqb-true, eq-eqb}
use Rattle.cell_num.specs.Lists.{where_true}
use Rattle.cell_world.specs.World.{Region}
use Rattle.cell_world.specs.Running.Memory.{covers, end_of}
use Rattle.cell_mem.specs.declared.fault.MemFault.TheVariants.{Misaligned, Unmapped}
use Rattle.cell_mem.specs.Access.{need, ◌>>◌, found as found_or, region_for}
use Rattle.cell_mem.specs.Index.{IsWhole, IsLaid}
use Rattle.cell_mem.specs.State.{MemoryState, region_of, region_with, is_width}
use Rattle.cell_mem.specs.Writing.{HasBytes}
use Rattle.cell_mem.proofs.Laid.{find_lies, found_passes, covers_low, covers_high}

enough : (r : Region) (addr n : ℕ) → is_some (where_true (leb (addr + n) (end_of r)) r) ≡ true → addr + n ≤ end_of r
enough r addr n e = go (leb (addr + n) (end_of r)) refl e
  where
    go : (b : Bool) → leb (addr + n) (end_of r) ≡ b → is_some (where_true b r) ≡ true → addr + n ≤ end_of r
    go true t e = leb-true (addr + n) (end_of r) t
    go false t e = absurd cc

-- where the bytes are mapped, one region is found that has them
pub record Mapped (m : MemoryState) (addr n : ℕ) : Type 0 where
  pub region : Region
  pub found : region_of m addr ≡ Some region
  pub has : HasBytes region addr n

-- the region that is found has them
pub has_found : (m : MemoryState) (addr n : ℕ) (r : Region) → region_of m addr ≡ Some r → is_some (region_with m addr n) ≡ true → HasBytes r addr n
has_found m addr n r found e =
    record {
      low = covers_low r addr (found_passes (λ s. covers s addr) m.regions r found);
      high = enough r addr n (sym (ap (λ o. is_some (option_and_then (λ s. where_true (leb (addr + n) (end_of s)) s) o)) found) ∙ e);
    }

pub mapped_is : (m : MemoryState) (addr n : ℕ) (high : ℕ) → IsLaid m.base m.regions high → is_some (region_with m addr n) ≡ true → Mapped m addr n
mapped_is m addr n high laid e = go (region_of m addr) refl e
  where
    go : (o : Option Region) → region_of m addr ≡ o → is_some (option_and_then (λ r. where_true (leb (addr + n) (end_of r)) r) o) ≡ true → Mapped m addr n
    go None o e = absurd cc
    go (Some r) o e =
        let l = find_lies m.base m.regions high (λ s. covers s addr) r laid o in
        record { region = r; found = o; has = record { low = covers_low r addr l.1; high = enough r addr n e } }

-- the bytes are in the space
pub mapped_inside : (m : MemoryState) (addr n high : ℕ) → IsLaid m.base m.regions high → is_some (region_with m addr n) ≡ true → (m.base ≤ addr) × (addr + n ≤ high)
mapped_inside m addr n high laid e =
    let f = mapped_is m addr n high laid e in
    let l = find_lies m.base m.regions high (λ s. covers s addr) f.region laid f.found in
    (omega (arith, l.0.above, f.has.low), omega (arith, l.0.below, f.has.high))

-- aligned bytes that begin in a region of whole pages are all in it
by_width : (r : Region) (addr n : ℕ) → (n ≡ 1) ⊎ ((n ≡ 2) ⊎ ((n ≡ 4) ⊎ (n ≡ 8))) → addr % n ≡ 0 → IsWhole r → addr < end_of r → addr + n ≤ end_of r
by_width r addr n (inl e) a w lt = omega (arith, e)
by_width r addr n (inr (inl e)) a w lt =
    let b : addr % 2 ≡ 0 = rw e at a in omega (arith, e, b, w.aligned, w.whole)
by_width r addr n (inr (inr (inl e))) a w lt =
    let b : addr % 4 ≡ 0 = rw e at a in omega (arith, e, b, w.aligned, w.whole)
by_width r addr n (inr (inr (inr e))) a w lt =
    let b : addr % 8 ≡ 0 = rw e at a in omega (arith, e, b, w.aligned, w.whole)

width_cases : (n : ℕ) → is_width n ≡ true → (n ≡ 1) ⊎ ((n ≡ 2) ⊎ ((n ≡ 4) ⊎ (n ≡ 8)))
width_cases n e =
    ⊎_elim (λ (a : eqb 1 n ≡ true). inl (sym (eqb-true 1 n a)))
    (λ (e2 : (eqb 2 n || (eqb 4 n || (eqb 8 n || false))) ≡ true).
    ⊎_elim (λ (a : eqb 2 n ≡ true). inr (inl (sym (eqb-true 2 n a))))
    (λ (e3 : (eqb 4 n || (eqb 8 n || false)) ≡ true).
    ⊎_elim (λ (a : eqb 4 n ≡ true). inr (inr (inl (sym (eqb-true 4 n a)))))
    (λ (e4 : (eqb 8 n || false) ≡ true).
    ⊎_elim (λ (a : eqb 8 n ≡ true). inr (inr (inr (sym (eqb-true 8 n a))))) (λ (x : false ≡ true). absurd (false≢true x))
    (or_cases (eqb 8 n) false e4))
    (or_cases (eqb 4 n) (eqb 8 n || false) e3))
    (or_cases (eqb 2 n) (eqb 4 n || (eqb 8 n || false)) e2))
    (or_cases (eqb 1 n) (eqb 2 n || (eqb 4 n || (eqb 8 n || false))) e)

pub aligned_has : (r : Region) (addr width : ℕ) → IsWhole r → covers r addr ≡ true → is_width width ≡ true → addr % width ≡ 0 → HasBytes r addr width
aligned_has r addr width w c width_is aligned =
    record { low = covers_low r addr c; high = by_width r addr width (width_cases width width_is) aligned w (covers_high r addr c) }

with_of : (m : MemoryState) (addr n : ℕ) (r : Region) → region_of m addr ≡ Some r → HasBytes r addr n → region_with m addr n ≡ Some r
with_of m addr n r e h =
    ap (option_and_then (λ s. where_true (leb (addr + n) (end_of s)) s)) e
    ∙ ap (λ b. where_true b r) (le-leb (addr + n) (end_of r) h.high)

with_none : (m : MemoryState) (addr n : ℕ) → region_of m addr ≡ None → region_with m addr n ≡ None
with_none m addr n e = ap (option_and_then (λ s. where_true (leb (addr + n) (end_of s)) s)) e

module _ (m : MemoryState) (addr width : ℕ) (width_is : is_width width ≡ true) (aligned : addr % width ≡ 0) where
  region_has : (r : Bor Region) → Some r.now ≡ region_of m addr → IsWhole r.now → HasBytes r.now addr width
  region_has r e w = aligned_has r.now addr width w (found_passes (λ s. covers s addr) m.regions r.now (sym e)) width_is aligned

  steps : (o : Option Region) → region_with m addr width ≡ o → region_for m addr width ≡ found_or o Unmapped
  steps o e =
      ap (λ b. need b Misaligned >> found_or (region_with m addr width) Unmapped) (eq-eqb (addr % width) 0 aligned)
      ∙ ap (λ x. found_or x Unmapped) e

  pub access_found : (r : Region) → Some r ≡ region_of m addr → IsWhole r → region_for m addr width ≡ Ok r
  access_found r e w = steps (Some r) (with_of m addr width r (sym e) (aligned_has r addr width w (found_passes (λ s. covers s addr) m.regions r (sym e)) width_is aligned))

  pub access_answer : (o : Option (Bor Region)) → option_map (λ r. r.now) o ≡ region_of m addr → IfSome o (λ r. IsWhole r.now)
      → result_map_both (λ r. r.now) (λ fault. fault) (ok_or o Unmapped) ≡ region_for m addr width
  access_answer None e w = sym (steps None (with_none m addr width (sym e)))
  access_answer (Some r) e w = sym (steps (Some r.now) (with_of m addr width r.now (sym e) (region_has r e w)))

  pub access_inside : (o : Option (Bor Region)) → option_map (λ r. r.now) o ≡ region_of m addr → IfSome o (λ r. IsWhole r.now)
      → IfOk (ok_or o Unmapped) (λ r. HasBytes r.now addr width)
  access_inside None e w = tt
  access_inside (Some r) e w = region_has r e w

  pub access_mapped : (o : Option (Bor Region)) → option_map (λ r. r.now) o ≡ region_of m addr → IfSome o (λ r. IsWhole r.now)
      → OnOk (ok_or o Unmapped) (is_some (region_with m addr width) ≡ true)
  access_mapped None e w = tt
  access_mapped (Some r) e w = ap is_some (with_of m addr width r.now (sym e) (region_has r e w))
