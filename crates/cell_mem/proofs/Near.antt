-- A region that is looked at before the index is.
use Rattle.std.proofs.Common.{◌≡◌, ℕ, zero, suc, ◌-◌, ◌%◌, ◌<◌, ◌≤◌, Bool, true, false, List, [], ◌∷◌, Option, Some, None, Ok, length, get_or, refl, sym, ap, ◌∙◌, ⊎_elim, arith}
use Rattle.std.proofs.Math.Dec.{ltb}
use Rattle.std.specs.Borrow.{Bor}
use Rattle.std.specs.List.{find}
use Rattle.std.specs.Prelude.{IfSome}
use Rattle.std.proofs.lemmas.Bool.{cases_lt, false≢true, lt-ltb, ltb-true}
use Rattle.cell_world.specs.World.{Region}
use Rattle.cell_world.specs.Running.Memory.{covers, end_of}
use Rattle.cell_mem.specs.declared.memory.Memory.TheInside.{Inside}
use Rattle.cell_mem.specs.Inside.{IsSound, state_of}
use Rattle.cell_mem.specs.Access.{region_for}
use Rattle.cell_mem.specs.Index.{IsLaid, IsWhole, held}
use Rattle.cell_mem.specs.State.{MemoryState, is_width, region_of}
use Rattle.cell_mem.specs.Writing.{HasBytes}
use Rattle.cell_mem.proofs.Held.{lies_at}
use Rattle.cell_mem.proofs.Laid.{covers_from, covers_low, find_here, find_skip, found_passes, not_above}
use Rattle.cell_mem.proofs.Reading.{access_found, aligned_has}

-- an address in a region by its distance from the start
pub covers_is : (r : Region) (addr : ℕ) → r.start ≤ addr → ltb (addr - r.start) (length r.bytes) ≡ covers r addr
covers_is r addr le = go (ltb (addr - r.start) (length r.bytes)) refl
  where
    go : (b : Bool) → ltb (addr - r.start) (length r.bytes) ≡ b → b ≡ covers r addr
    go true e = let lt : addr - r.start < length r.bytes = ltb-true (addr - r.start) (length r.bytes) e in sym (covers_from r addr le (omega (arith, lt, le)))
    go false e =
        ⊎_elim
        (λ (lt : addr < end_of r). absurd (false≢true (sym e ∙ lt-ltb (addr - r.start) (length r.bytes) (omega (arith, lt, le)))))
        (λ (ge : end_of r ≤ addr). sym (not_above r addr ge))
        (cases_lt addr (end_of r))

-- what stands at a page is found for each address that it covers
stands_found : (low : ℕ) (pages : List (Option Region)) (high k : ℕ) (r : Region) (addr : ℕ) → IsLaid low (held pages) high → get_or pages k None ≡ Some r → covers r addr ≡ true
    → find (λ s. covers s addr) (held pages) ≡ Some r
stands_found low [] high k r addr h e c = absurd cc
stands_found low (None ∷ pages) high zero r addr h e c = absurd cc
stands_found low (None ∷ pages) high (suc k) r addr h e c = stands_found low pages high k r addr h e c
stands_found low (Some s ∷ pages) high zero r addr h e c =
    let same : s ≡ r = cc in
    find_here (λ t. covers t addr) s (held pages) (ap (λ x. covers x addr) same ∙ c) ∙ ap (λ x. Some x) same
stands_found low (Some s ∷ pages) high (suc k) r addr h e c =
    let there = lies_at (end_of s) pages high k r h.2 e in
    find_skip (λ t. covers t addr) s (held pages) (not_above s addr (omega (arith, there.above, covers_low r addr c)))
    ∙ stands_found (end_of s) pages high k r addr h.2 e c

-- and for what it covers it is the region of the address
pub near_is : (i : Inside) (m : MemoryState) (page addr : ℕ) (r : Region) → IsSound i → state_of i ≡ m → get_or i.regions.items page None ≡ Some r → covers r addr ≡ true
    → Some r ≡ region_of m addr
near_is i m page addr r s e at c =
    sym (stands_found i.base i.regions.items _ page r addr s.laid at c) ∙ ap (λ (k : MemoryState). region_of k addr) e

pub near_whole : (i : Inside) (page : ℕ) (r : Region) → IsSound i → get_or i.regions.items page None ≡ Some r → IsWhole r
near_whole i page r s at = (lies_at i.base i.regions.items _ page r s.laid at).whole

-- the region that has the bytes of an aligned address
module _ (m : MemoryState) (addr width : ℕ) (width_is : is_width width ≡ true) (aligned : addr % width ≡ 0) where
  near_has : (r : Region) → Some r ≡ region_of m addr → IsWhole r → HasBytes r addr width
  near_has r found w = aligned_has r addr width w (found_passes (λ s. covers s addr) m.regions r (sym found)) width_is aligned

  near_answer : (r : Region) → Some r ≡ region_of m addr → IsWhole r → Ok r ≡ region_for m addr width
  near_answer r found w = sym (access_found m addr width width_is aligned r found w)

  pub near_answered : (o : Option (Bor Region)) → IfSome o (λ r. Some r.now ≡ region_of m addr) → IfSome o (λ r. IsWhole r.now) → IfSome o (λ r. Ok r.now ≡ region_for m addr width)
  near_answered None found w = tt
  near_answered (Some r) found w = near_answer r.now found w

  pub near_inside : (o : Option (Bor Region)) → IfSome o (λ r. Some r.now ≡ region_of m addr) → IfSome o (λ r. IsWhole r.now) → IfSome o (λ r. HasBytes r.now addr width)
  near_inside None found w = tt
  near_inside (Some r) found w = near_has r.now found w
