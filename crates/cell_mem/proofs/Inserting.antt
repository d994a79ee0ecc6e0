-- A new region among those that stand apart.
use Rattle.std.proofs.Common.{◌≡◌, ℕ, ◌<◌, ◌≤◌, Bool, true, false, not, cond, ◌&&◌, ◌||◌, List, [], ◌∷◌, Some, leb, ltb, refl, sym, ap, ◌∙◌, ◌⊎◌, ⊎_elim, arith}
use Rattle.std.specs.List.{find, list_all}
use Rattle.std.proofs.lemmas.Bool.{and_parts, or_cases, leb-true, ltb-true, ltb-false}
use Rattle.cell_world.specs.World.{Region}
use Rattle.cell_world.specs.Running.Memory.{covers, end_of}
use Rattle.cell_world.specs.Placed.Place.{with_region}
use Rattle.cell_mem.specs.Index.{IsWhole, IsLaid}
use Rattle.cell_mem.proofs.Laid.{covers_low, covers_high, not_below, not_above, find_here, find_skip}

-- the region ends before the other begins, or begins after its end
abbrev pub is_apart : Region → Region → Bool
is_apart r s = leb (end_of s) r.start || leb (end_of r) s.start

pub laid_with : (low : ℕ) (rs : List Region) (high : ℕ) (r : Region) → IsLaid low rs high → IsWhole r → low ≤ r.start → end_of r ≤ high
    → list_all (is_apart r) rs ≡ true → IsLaid low (with_region r rs) high
laid_with low [] high r h w l e a = (l, w, e)
laid_with low (s ∷ rs) high r h w l e a =
    let parts = and_parts (is_apart r s) (list_all (is_apart r) rs) a in
    let apart = or_cases (leb (end_of s) r.start) (leb (end_of r) s.start) parts.0 in
    go (ltb r.start s.start) refl apart (λ above. laid_with (end_of s) rs high r h.2 w above e parts.1)
  where
    go : (b : Bool) → ltb r.start s.start ≡ b → (leb (end_of s) r.start ≡ true) ⊎ (leb (end_of r) s.start ≡ true)
        → (end_of s ≤ r.start → IsLaid (end_of s) (with_region r rs) high) → IsLaid low (cond b (r ∷ s ∷ rs) (s ∷ with_region r rs)) high
    go true t apart f =
        let before : r.start < s.start = ltb-true r.start s.start t in
        let ends : end_of r ≤ s.start =
        ⊎_elim (λ (x : leb (end_of s) r.start ≡ true). absurd (omega (arith, leb-true (end_of s) r.start x, before)))
        (λ (x : leb (end_of r) s.start ≡ true). leb-true (end_of r) s.start x) apart in
        (l, w, (ends, h.1, h.2))
    go false t apart f =
        let after : s.start ≤ r.start = ltb-false r.start s.start t in (
          h.0,
          h.1,
          f (⊎_elim
              (λ (x : leb (end_of s) r.start ≡ true). leb-true (end_of s) r.start x)
              (λ (x : leb (end_of r) s.start ≡ true). absurd (omega (arith, leb-true (end_of r) s.start x, after, w.filled))) apart),
        )

-- looking for the new region among the others
pub find_with : (test : Region → Bool) (r : Region) (rs : List Region) → test r ≡ false → find test (with_region r rs) ≡ find test rs
find_with test r [] e = find_skip test r [] e
find_with test r (s ∷ rs) e = go (ltb r.start s.start) (find_with test r rs e)
  where
    go : (b : Bool) → find test (with_region r rs) ≡ find test rs → find test (cond b (r ∷ s ∷ rs) (s ∷ with_region r rs)) ≡ find test (s ∷ rs)
    go true f = find_skip test r (s ∷ rs) e
    go false f = ap (cond (test s) (Some s)) f

fails : (b : Bool) → not b ≡ true → b ≡ false
fails true e = sym e
fails false e = refl

pub find_new : (test : Region → Bool) (r : Region) (rs : List Region) → test r ≡ true → list_all (λ s. not (test s)) rs ≡ true → find test (with_region r rs) ≡ Some r
find_new test r [] e f = find_here test r [] e
find_new test r (s ∷ rs) e f =
    let parts = and_parts (not (test s)) (list_all (λ t. not (test t)) rs) f in
    go (ltb r.start s.start) (fails (test s) parts.0) (find_new test r rs e parts.1)
  where
    go : (b : Bool) → test s ≡ false → find test (with_region r rs) ≡ Some r → find test (cond b (r ∷ s ∷ rs) (s ∷ with_region r rs)) ≡ Some r
    go true t f = find_here test r (s ∷ rs) e
    go false t f = find_skip test s (with_region r rs) t ∙ f

-- what is apart from a region covers none of its addresses
pub apart_covers : (r : Region) (addr : ℕ) (rs : List Region) → covers r addr ≡ true → list_all (is_apart r) rs ≡ true → list_all (λ s. not (covers s addr)) rs ≡ true
apart_covers r addr [] c a = refl
apart_covers r addr (s ∷ rs) c a =
    let parts = and_parts (is_apart r s) (list_all (is_apart r) rs) a in
    let apart = or_cases (leb (end_of s) r.start) (leb (end_of r) s.start) parts.0 in
    let free : covers s addr ≡ false =
    ⊎_elim
    (λ (x : leb (end_of s) r.start ≡ true). not_above s addr (omega (arith, leb-true (end_of s) r.start x, covers_low r addr c)))
    (λ (x : leb (end_of r) s.start ≡ true). not_below s addr (omega (arith, leb-true (end_of r) s.start x, covers_high r addr c))) apart in
    ap (λ b. not b && list_all (λ t. not (covers t addr)) rs) free ∙ apart_covers r addr rs c parts.1
