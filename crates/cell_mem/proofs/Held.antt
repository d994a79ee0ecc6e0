-- Regions that stand at the pages that they begin at.
use Rattle.std.proofs.Common.{◌≡◌, ℕ, zero, suc, ◌+◌, ◌*◌, ◌<◌, ◌≤◌, Bool, true, false, not, cond, List, [], ◌∷◌, Option, Some, None, length, map, filter, replicate, get_or, refl, sym, ap, ◌∙◌, subst, arith}
use Rattle.std.specs.List.{find, list_all}
use Rattle.std.proofs.Math.ListN.{set}
use Rattle.std.proofs.lemmas.Bool.{and_parts, lt-ltb, le-ltb, ne_eqb, eq-eqb}
use Rattle.cell_world.specs.World.{Region}
use Rattle.cell_world.specs.Running.Memory.{covers, end_of, written}
use Rattle.cell_world.specs.Placed.Place.{with_region}
use Rattle.cell_mem.specs.Index.{IsLaid, AreInPlace, held}
use Rattle.cell_mem.specs.Writing.{put}
use Rattle.cell_mem.proofs.Laid.{Lies, laid_low, covers_low, covers_high, not_above}
use Rattle.cell_mem.proofs.Removing.{starts_at}
use Rattle.cell_mem.proofs.Writes.{untouched}

-- the region at a page
pub starts : (addr : ℕ) (pages : List (Option Region)) (k : ℕ) (r : Region) → AreInPlace addr pages → get_or pages k None ≡ Some r → r.start ≡ addr + 4096 * k
starts addr [] k r h e = absurd cc
starts addr (None ∷ pages) zero r h e = absurd cc
starts addr (Some s ∷ pages) zero r h e = let same : s ≡ r = cc in omega (arith, ap (λ x. x.start) same, h.0)
starts addr (None ∷ pages) (suc k) r h e = omega (arith, starts (addr + 4096) pages k r h e)
starts addr (Some s ∷ pages) (suc k) r h e = omega (arith, starts (addr + 4096) pages k r h.1 e)

pub lies_at : (low : ℕ) (pages : List (Option Region)) (high k : ℕ) (r : Region) → IsLaid low (held pages) high → get_or pages k None ≡ Some r → Lies low r high
lies_at low [] high k r h e = absurd cc
lies_at low (None ∷ pages) high zero r h e = absurd cc
lies_at low (None ∷ pages) high (suc k) r h e = lies_at low pages high k r h e
lies_at low (Some s ∷ pages) high zero r h e =
    let same : s ≡ r = cc in
    subst (λ x. Lies low x high) same (record { above = h.0; whole = h.1; below = laid_low (end_of s) (held pages) high h.2 })
lies_at low (Some s ∷ pages) high (suc k) r h e =
    let rest = lies_at (end_of s) pages high k r h.2 e in
    record { above = omega (arith, rest.above, h.0); whole = rest.whole; below = rest.below }

pub passes_at : (test : Region → Bool) (pages : List (Option Region)) (k : ℕ) (r : Region) → list_all test (held pages) ≡ true → get_or pages k None ≡ Some r → test r ≡ true
passes_at test [] k r h e = absurd cc
passes_at test (None ∷ pages) zero r h e = absurd cc
passes_at test (None ∷ pages) (suc k) r h e = passes_at test pages k r h e
passes_at test (Some s ∷ pages) zero r h e = let same : s ≡ r = cc in subst (λ x. test x ≡ true) same (and_parts (test s) (list_all test (held pages)) h).0
passes_at test (Some s ∷ pages) (suc k) r h e = passes_at test pages k r (and_parts (test s) (list_all test (held pages)) h).1 e

-- what is found stands at the page that it begins at
pub record Stands (addr : ℕ) (pages : List (Option Region)) (r : Region) : Type 0 where
  pub page : ℕ
  pub start_is : r.start ≡ addr + 4096 * page
  pub inside : page < length pages
  pub at : get_or pages page None ≡ Some r

later : (addr : ℕ) (o : Option Region) (pages : List (Option Region)) (r : Region) → Stands (addr + 4096) pages r → Stands addr (o ∷ pages) r
later addr o pages r s =
    record { page = suc s.page; start_is = omega (arith, s.start_is); inside = omega (arith, s.inside); at = s.at }

pub found_stands : (addr : ℕ) (pages : List (Option Region)) (test : Region → Bool) (r : Region) → AreInPlace addr pages → find test (held pages) ≡ Some r → Stands addr pages r
found_stands addr [] test r h e = absurd cc
found_stands addr (None ∷ pages) test r h e = later addr None pages r (found_stands (addr + 4096) pages test r h e)
found_stands addr (Some s ∷ pages) test r h e = go (test s) e (found_stands (addr + 4096) pages test r h.1)
  where
    go : (b : Bool) → cond b (Some s) (find test (held pages)) ≡ Some r → (find test (held pages) ≡ Some r → Stands (addr + 4096) pages r) → Stands addr (Some s ∷ pages) r
    go true e f =
        let same : s ≡ r = cc in
        record { page = 0; start_is = omega (arith, ap (λ x. x.start) same, h.0); inside = omega arith; at = ap Some same }
    go false e f = later addr (Some s) pages r (f e)

-- a region at a page, or none
pub in_place_set : (addr : ℕ) (pages : List (Option Region)) (k : ℕ) (o : Option Region) → AreInPlace addr pages → ((r : Region) → o ≡ Some r → r.start ≡ addr + 4096 * k)
    → AreInPlace addr (set pages k o)
in_place_set addr [] k o h f = tt
in_place_set addr (None ∷ pages) zero None h f = h
in_place_set addr (None ∷ pages) zero (Some r) h f = (omega (arith, f r refl), h)
in_place_set addr (Some s ∷ pages) zero None h f = h.1
in_place_set addr (Some s ∷ pages) zero (Some r) h f = (omega (arith, f r refl), h.1)
in_place_set addr (None ∷ pages) (suc k) o h f = in_place_set (addr + 4096) pages k o h (λ r e. omega (arith, f r e))
in_place_set addr (Some s ∷ pages) (suc k) o h f = (h.0, in_place_set (addr + 4096) pages k o h.1 (λ r e. omega (arith, f r e)))

-- a region that begins before all others stands first
before_all : (addr : ℕ) (pages : List (Option Region)) (r : Region) → AreInPlace addr pages → r.start < addr → with_region r (held pages) ≡ r ∷ held pages
before_all addr [] r h lt = refl
before_all addr (None ∷ pages) r h lt = before_all (addr + 4096) pages r h (omega arith)
before_all addr (Some s ∷ pages) r h lt =
    ap (λ b. cond b (r ∷ s ∷ held pages) (s ∷ with_region r (held pages))) (lt-ltb r.start s.start (omega (arith, h.0)))

-- a new region at an empty page
pub held_new : (addr : ℕ) (pages : List (Option Region)) (k : ℕ) (r : Region) → AreInPlace addr pages → k < length pages → get_or pages k None ≡ None → r.start ≡ addr + 4096 * k
    → held (set pages k (Some r)) ≡ with_region r (held pages)
held_new addr [] k r h lt e s = absurd (omega arith)
held_new addr (None ∷ pages) zero r h lt e s = sym (before_all (addr + 4096) pages r h (omega arith))
held_new addr (Some t ∷ pages) zero r h lt e s = absurd cc
held_new addr (None ∷ pages) (suc k) r h lt e s = held_new (addr + 4096) pages k r h (omega arith) e (omega arith)
held_new addr (Some t ∷ pages) (suc k) r h lt e s =
    ap (λ ss. t ∷ ss) (held_new (addr + 4096) pages k r h.1 (omega arith) e (omega arith))
    ∙ sym (ap (λ b. cond b (r ∷ t ∷ held pages) (t ∷ with_region r (held pages))) (le-ltb r.start t.start (omega (arith, h.0))))

none_starts : (addr : ℕ) (pages : List (Option Region)) (start : ℕ) → AreInPlace addr pages → start < addr → filter (λ r. not (starts_at start r)) (held pages) ≡ held pages
none_starts addr [] start h lt = refl
none_starts addr (None ∷ pages) start h lt = none_starts (addr + 4096) pages start h (omega arith)
none_starts addr (Some s ∷ pages) start h lt =
    ap (λ b. cond (not b) (s ∷ filter (λ t. not (starts_at start t)) (held pages)) (filter (λ t. not (starts_at start t)) (held pages))) (ne_eqb s.start start (λ e. omega (arith, e, h.0)))
    ∙ ap (λ ss. s ∷ ss) (none_starts (addr + 4096) pages start h.1 (omega arith))

-- a page without its region
pub held_less : (addr : ℕ) (pages : List (Option Region)) (k start : ℕ) → AreInPlace addr pages → start ≡ addr + 4096 * k
    → held (set pages k None) ≡ filter (λ r. not (starts_at start r)) (held pages)
held_less addr [] k start h s = refl
held_less addr (None ∷ pages) zero start h s = sym (none_starts (addr + 4096) pages start h (omega arith))
held_less addr (Some t ∷ pages) zero start h s =
    sym (none_starts (addr + 4096) pages start h.1 (omega arith))
    ∙ sym (ap (λ b. cond (not b) (t ∷ filter (λ x. not (starts_at start x)) (held pages)) (filter (λ x. not (starts_at start x)) (held pages))) (eq-eqb t.start start (omega (arith, h.0))))
held_less addr (None ∷ pages) (suc k) start h s = held_less (addr + 4096) pages k start h (omega arith)
held_less addr (Some t ∷ pages) (suc k) start h s =
    ap (λ ss. t ∷ ss) (held_less (addr + 4096) pages k start h.1 (omega arith))
    ∙ sym (ap (λ b. cond (not b) (t ∷ filter (λ x. not (starts_at start x)) (held pages)) (filter (λ x. not (starts_at start x)) (held pages))) (ne_eqb t.start start (λ e. omega (arith, e, h.0))))

-- a write into the region at a page is one into the region that covers the address
pub held_put : (low : ℕ) (pages : List (Option Region)) (high k : ℕ) (r : Region) (a : ℕ) (new : List ℕ) → IsLaid low (held pages) high → get_or pages k None ≡ Some r → covers r a ≡ true
    → held (set pages k (Some (put a new r))) ≡ map (λ s. written s a new) (held pages)
held_put low [] high k r a new h e c = absurd cc
held_put low (None ∷ pages) high zero r a new h e c = absurd cc
held_put low (None ∷ pages) high (suc k) r a new h e c = held_put low pages high k r a new h e c
held_put low (Some s ∷ pages) high zero r a new h e c =
    let same : s ≡ r = cc in
    let here : covers s a ≡ true = ap (λ x. covers x a) same ∙ c in
    ap (λ x. put a new x ∷ held pages) (sym same)
    ∙ ap (λ ss. put a new s ∷ ss) (sym (untouched (end_of s) (held pages) high a new h.2 (covers_high s a here)))
    ∙ sym (ap (λ b. cond b (put a new s) s ∷ map (λ t. written t a new) (held pages)) here)
held_put low (Some s ∷ pages) high (suc k) r a new h e c =
    let there = lies_at (end_of s) pages high k r h.2 e in
    ap (λ ss. s ∷ ss) (held_put (end_of s) pages high k r a new h.2 e c)
    ∙ sym (ap (λ b. cond b (put a new s) s ∷ map (λ t. written t a new) (held pages)) (not_above s a (omega (arith, there.above, covers_low r a c))))

-- how many regions there are
pub held_few : (pages : List (Option Region)) → length (held pages) ≤ length pages
held_few [] = omega arith
held_few (None ∷ pages) = omega (arith, held_few pages)
held_few (Some r ∷ pages) = omega (arith, held_few pages)

pub one_held_more : (pages : List (Option Region)) (k : ℕ) (r : Region) → k < length pages → get_or pages k None ≡ None → length (held (set pages k (Some r))) ≡ suc (length (held pages))
one_held_more [] k r lt e = absurd (omega arith)
one_held_more (None ∷ pages) zero r lt e = refl
one_held_more (Some s ∷ pages) zero r lt e = absurd cc
one_held_more (None ∷ pages) (suc k) r lt e = one_held_more pages k r (omega arith) e
one_held_more (Some s ∷ pages) (suc k) r lt e = ap suc (one_held_more pages k r (omega arith) e)

pub one_held_less : (pages : List (Option Region)) (k : ℕ) (r : Region) → get_or pages k None ≡ Some r → suc (length (held (set pages k None))) ≡ length (held pages)
one_held_less [] k r e = absurd cc
one_held_less (None ∷ pages) zero r e = absurd cc
one_held_less (Some s ∷ pages) zero r e = refl
one_held_less (None ∷ pages) (suc k) r e = one_held_less pages k r e
one_held_less (Some s ∷ pages) (suc k) r e = ap suc (one_held_less pages k r e)

-- pages without a region
pub none_held : (n : ℕ) → held (replicate n None) ≡ []
none_held zero = refl
none_held (suc n) = none_held n

pub none_in_place : (addr n : ℕ) → AreInPlace addr (replicate n None)
none_in_place addr zero = tt
none_in_place addr (suc n) = none_in_place (addr + 4096) n
