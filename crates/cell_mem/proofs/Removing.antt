-- A region less among those that stand apart.
use Rattle.std.proofs.Common.{◌≡◌, ℕ, ◌<◌, Bool, true, false, not, cond, List, [], ◌∷◌, Some, None, filter, eqb, refl, sym, ap, ◌∙◌, arith}
use Rattle.std.specs.List.{find}
use Rattle.std.proofs.lemmas.Bool.{eqb-true, ne_eqb}
use Rattle.cell_world.specs.World.{Region}
use Rattle.cell_world.specs.Running.Memory.{covers, end_of}
use Rattle.cell_mem.specs.Index.{IsLaid}
use Rattle.cell_mem.proofs.Laid.{laid_lower, covers_low, covers_high, not_above, none_low, find_lies, find_skip}

abbrev pub starts_at : ℕ → Region → Bool
starts_at start r = eqb r.start start

kept_all : (low : ℕ) (rs : List Region) (high start : ℕ) → IsLaid low rs high → start < low → filter (λ r. not (starts_at start r)) rs ≡ rs
kept_all low [] high start h lt = refl
kept_all low (r ∷ rs) high start h lt =
    ap (λ b. cond (not b) (r ∷ filter (λ s. not (starts_at start s)) rs) (filter (λ s. not (starts_at start s)) rs)) (ne_eqb r.start start (λ e. omega (arith, e, h.0)))
    ∙ ap (λ ss. r ∷ ss) (kept_all (end_of r) rs high start h.2 (omega (arith, h.0)))

pub laid_less : (low : ℕ) (rs : List Region) (high : ℕ) (test : Region → Bool) → IsLaid low rs high → IsLaid low (filter test rs) high
laid_less low [] high test h = h
laid_less low (r ∷ rs) high test h = go (test r) (laid_less (end_of r) rs high test h.2)
  where
    go : (b : Bool) → IsLaid (end_of r) (filter test rs) high → IsLaid low (cond b (r ∷ filter test rs) (filter test rs)) high
    go true rest = (h.0, h.1, rest)
    go false rest = laid_lower low (end_of r) (filter test rs) high (omega (arith, h.0)) rest

-- the regions without the one that starts there
module _ (start : ℕ) (r : Region) (test : Region → Bool) where
  abbrev left : List Region → List Region
  left rs = filter (λ s. not (starts_at start s)) rs

  -- where another one is looked for
  pub find_left : (low : ℕ) (rs : List Region) (high : ℕ) → IsLaid low rs high → find (starts_at start) rs ≡ Some r → test r ≡ false → find test (left rs) ≡ find test rs
  find_left low [] high h e t = refl
  find_left low (s ∷ rs) high h e t = go (starts_at start s) refl e (λ d. find_left (end_of s) rs high h.2 d t)
    where
      go : (b : Bool) → starts_at start s ≡ b → cond b (Some s) (find (starts_at start) rs) ≡ Some r → (find (starts_at start) rs ≡ Some r → find test (left rs) ≡ find test rs)
          → find test (cond (not b) (s ∷ left rs) (left rs)) ≡ find test (s ∷ rs)
      go true b e f =
          let same : s ≡ r = cc in
          ap (find test) (kept_all (end_of s) rs high start h.2 (omega (arith, eqb-true s.start start b, h.1.filled)))
          ∙ sym (find_skip test s rs (ap test same ∙ t))
      go false b e f = ap (cond (test s) (Some s)) (f e)

-- and where it is looked for itself
pub find_gone : (start : ℕ) (r : Region) (addr low : ℕ) (rs : List Region) (high : ℕ) → IsLaid low rs high → find (starts_at start) rs ≡ Some r → covers r addr ≡ true
    → find (λ s. covers s addr) (filter (λ s. not (starts_at start s)) rs) ≡ None
find_gone start r addr low [] high h e c = refl
find_gone start r addr low (s ∷ rs) high h e c = go (starts_at start s) refl e (λ d. find_gone start r addr (end_of s) rs high h.2 d c)
  where
    go : (b : Bool) → starts_at start s ≡ b → cond b (Some s) (find (starts_at start) rs) ≡ Some r
        → (find (starts_at start) rs ≡ Some r → find (λ t. covers t addr) (filter (λ t. not (starts_at start t)) rs) ≡ None)
        → find (λ t. covers t addr) (cond (not b) (s ∷ filter (λ t. not (starts_at start t)) rs) (filter (λ t. not (starts_at start t)) rs)) ≡ None
    go true b e f =
        let same : s ≡ r = cc in
        ap (find (λ t. covers t addr)) (kept_all (end_of s) rs high start h.2 (omega (arith, eqb-true s.start start b, h.1.filled)))
        ∙ none_low (end_of s) rs high addr h.2 (covers_high s addr (ap (λ x. covers x addr) same ∙ c))
    go false b e f =
        let rest = find_lies (end_of s) rs high (starts_at start) r h.2 e in
        find_skip (λ t. covers t addr) s (filter (λ t. not (starts_at start t)) rs) (not_above s addr (omega (arith, rest.0.above, covers_low r addr c)))
        ∙ f e
