-- Regions of whole pages that stand apart, and which one covers an address.
use Rattle.std.proofs.Common.{◌≡◌, ℕ, ◌+◌, ◌-◌, ◌*◌, ◌/◌, ◌%◌, ◌<◌, ◌≤◌, Bool, true, false, cond, ◌&&◌, List, [], ◌∷◌, Some, None, leb, ltb, refl, sym, ap, ◌∙◌, subst, ⊎_elim, arith}
use Rattle.std.specs.List.{find}
use Rattle.std.proofs.lemmas.Bool.{cases_lt, leb-true, ltb-true, le-leb, lt-leb, lt-ltb, le-ltb, and_parts, and_from, and_left, and_right}
use Rattle.cell_world.specs.World.{Region}
use Rattle.cell_world.specs.Running.Memory.{covers, end_of}
use Rattle.cell_mem.specs.Index.{IsWhole, IsLaid, covers_page}

-- a region of whole pages between two addresses
pub record Lies (low : ℕ) (r : Region) (high : ℕ) : Type 0 where
  pub above : low ≤ r.start
  pub whole : IsWhole r
  pub below : end_of r ≤ high

pub laid_low : (low : ℕ) (rs : List Region) (high : ℕ) → IsLaid low rs high → low ≤ high
laid_low low [] high h = h
laid_low low (r ∷ rs) high h = omega (arith, h.0, laid_low (end_of r) rs high h.2)

pub laid_lower : (lower low : ℕ) (rs : List Region) (high : ℕ) → lower ≤ low → IsLaid low rs high → IsLaid lower rs high
laid_lower lower low [] high le h = omega (arith, h)
laid_lower lower low (r ∷ rs) high le h = (omega (arith, h.0), h.1, h.2)

-- covering as facts
pub covers_from : (r : Region) (addr : ℕ) → r.start ≤ addr → addr < end_of r → covers r addr ≡ true
covers_from r addr low high = and_from (leb r.start addr) (ltb addr (end_of r)) (le-leb r.start addr low) (lt-ltb addr (end_of r) high)

pub covers_low : (r : Region) (addr : ℕ) → covers r addr ≡ true → r.start ≤ addr
covers_low r addr e = leb-true r.start addr (and_parts (leb r.start addr) (ltb addr (end_of r)) e).0

pub covers_high : (r : Region) (addr : ℕ) → covers r addr ≡ true → addr < end_of r
covers_high r addr e = ltb-true addr (end_of r) (and_parts (leb r.start addr) (ltb addr (end_of r)) e).1

pub not_below : (r : Region) (addr : ℕ) → addr < r.start → covers r addr ≡ false
not_below r addr lt = and_left (leb r.start addr) (ltb addr (end_of r)) (lt-leb r.start addr lt)

pub not_above : (r : Region) (addr : ℕ) → end_of r ≤ addr → covers r addr ≡ false
not_above r addr le = and_right (leb r.start addr) (ltb addr (end_of r)) (le-ltb addr (end_of r) le)

pub find_skip : (test : Region → Bool) (r : Region) (rs : List Region) → test r ≡ false → find test (r ∷ rs) ≡ find test rs
find_skip test r rs e = ap (λ b. cond b (Some r) (find test rs)) e

pub find_here : (test : Region → Bool) (r : Region) (rs : List Region) → test r ≡ true → find test (r ∷ rs) ≡ Some r
find_here test r rs e = ap (λ b. cond b (Some r) (find test rs)) e

pub none_low : (low : ℕ) (rs : List Region) (high addr : ℕ) → IsLaid low rs high → addr < low → find (λ r. covers r addr) rs ≡ None
none_low low [] high addr h lt = refl
none_low low (r ∷ rs) high addr h lt =
    find_skip (λ s. covers s addr) r rs (not_below r addr (omega (arith, h.0)))
    ∙ none_low (end_of r) rs high addr h.2 (omega (arith, h.0))

pub none_high : (low : ℕ) (rs : List Region) (high addr : ℕ) → IsLaid low rs high → high ≤ addr → find (λ r. covers r addr) rs ≡ None
none_high low [] high addr h le = refl
none_high low (r ∷ rs) high addr h le =
    find_skip (λ s. covers s addr) r rs (not_above r addr (omega (arith, laid_low (end_of r) rs high h.2)))
    ∙ none_high (end_of r) rs high addr h.2 le

leb_same : (s a b : ℕ) → (s ≤ a → s ≤ b) → (s ≤ b → s ≤ a) → leb s a ≡ leb s b
leb_same s a b f g =
    ⊎_elim (λ (lt : a < s). lt-leb s a lt ∙ sym (lt-leb s b (⊎_elim (λ (x : b < s). x) (λ (x : s ≤ b). absurd (omega (arith, g x, lt))) (cases_lt b s)))) (λ (le : s ≤ a). le-leb s a le ∙ sym (le-leb s b (f le))) (cases_lt a s)

ltb_same : (e a b : ℕ) → (a < e → b < e) → (b < e → a < e) → ltb a e ≡ ltb b e
ltb_same e a b f g =
    ⊎_elim (λ (lt : a < e). lt-ltb a e lt ∙ sym (lt-ltb b e (f lt))) (λ (le : e ≤ a). le-ltb a e le ∙ sym (le-ltb b e (⊎_elim (λ (x : b < e). absurd (omega (arith, g x, le))) (λ (x : e ≤ b). x) (cases_lt b e)))) (cases_lt a e)

-- a region of whole pages covers an address exactly where it covers the start of its page
pub page_covered : (r : Region) (base addr : ℕ) → IsWhole r → base % 4096 ≡ 0 → base ≤ addr → covers_page base ((addr - base) / 4096) r ≡ covers r addr
page_covered r base addr w aligned le =
    let page : ℕ = base + 4096 * ((addr - base) / 4096) in
    let starts : leb r.start page ≡ leb r.start addr = leb_same r.start page addr (λ low. omega arith) (λ low. omega (arith, w.aligned)) in
    let ends : ltb page (end_of r) ≡ ltb addr (end_of r) = ltb_same (end_of r) page addr (λ high. omega (arith, w.aligned, w.whole)) (λ high. omega arith) in
    ap (λ b. b && ltb page (end_of r)) starts ∙ ap (λ b. leb r.start addr && b) ends

pub page_found : (low : ℕ) (rs : List Region) (high base addr : ℕ) → IsLaid low rs high → base % 4096 ≡ 0 → base ≤ addr
    → find (covers_page base ((addr - base) / 4096)) rs ≡ find (λ r. covers r addr) rs
page_found low [] high base addr h aligned le = refl
page_found low (r ∷ rs) high base addr h aligned le =
    ap (λ b. cond b (Some r) (find (covers_page base ((addr - base) / 4096)) rs)) (page_covered r base addr h.1 aligned le)
    ∙ ap (cond (covers r addr) (Some r)) (page_found (end_of r) rs high base addr h.2 aligned le)

-- what is found in regions that stand apart
pub find_lies : (low : ℕ) (rs : List Region) (high : ℕ) (test : Region → Bool) (r : Region) → IsLaid low rs high → find test rs ≡ Some r → Lies low r high × (test r ≡ true)
find_lies low [] high test r h e = absurd cc
find_lies low (s ∷ rs) high test r h e = go (test s) refl e (find_lies (end_of s) rs high test r h.2)
  where
    go : (b : Bool) → test s ≡ b → cond b (Some s) (find test rs) ≡ Some r → (find test rs ≡ Some r → Lies (end_of s) r high × (test r ≡ true)) → Lies low r high × (test r ≡ true)
    go true t e f =
        let same : s ≡ r = cc in
        subst (λ x. Lies low x high × (test x ≡ true)) same (record { above = h.0; whole = h.1; below = laid_low (end_of s) rs high h.2 }, t)
    go false t e f =
        let rest = f e in
        (record { above = omega (arith, rest.0.above, h.0); whole = rest.0.whole; below = rest.0.below }, rest.1)

-- what was found passes the test
pub found_passes : (test : Region → Bool) (rs : List Region) (r : Region) → find test rs ≡ Some r → test r ≡ true
found_passes test [] r e = absurd cc
found_passes test (s ∷ rs) r e = go (test s) refl e (found_passes test rs r)
  where
    go : (b : Bool) → test s ≡ b → cond b (Some s) (find test rs) ≡ Some r → (find test rs ≡ Some r → test r ≡ true) → test r ≡ true
    go true t e f = let same : s ≡ r = cc in subst (λ x. test x ≡ true) same t
    go false t e f = f e
