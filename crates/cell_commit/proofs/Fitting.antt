-- A write that fits into the one region that has its bytes leaves which addresses are covered.
use Rattle.std.proofs.Common.{◌≡◌, refl, sym, ap, ap₂, ◌∙◌, arith, ℕ, ◌+◌, ◌-◌, ◌<◌, ◌≤◌, Bool, true, false, cond, ◌&&◌, List, [], ◌∷◌, Option, Some, length, map, leb, ltb, true≢false}
use Rattle.std.specs.Prelude.{find, is_some, option_and_then}
use Rattle.std.proofs.lemmas.Bool.{leb-true}
use Rattle.cell_num.specs.Lists.{where_true}
use Rattle.cell_world.specs.World.{Region}
use Rattle.cell_world.specs.Running.Memory.{covers, end_of, written, pasted}
use Rattle.cell_mem.specs.Index.{IsLaid}
use Rattle.cell_mem.proofs.Laid.{covers_low, covers_high}
use Rattle.cell_mem.proofs.Writes.{length-pasted}

-- the region of the list that has the n bytes from the address on
abbrev pub reached : List Region → ℕ → ℕ → Option Region
reached regions addr n = option_and_then (λ r. where_true (leb (addr + n) (end_of r)) r) (find (λ r. covers r addr) regions)

-- n bytes from the address on end in the region, where it covers the address
abbrev pub FitsIn : Region → ℕ → ℕ → Type 0
FitsIn r addr n = covers r addr ≡ true → addr + n ≤ end_of r

abbrev pub AllFit : List Region → ℕ → ℕ → Type 0
AllFit [] addr n = Unit {0}
AllFit (r ∷ regions) addr n = FitsIn r addr n × AllFit regions addr n

some_where : (b : Bool) (r : Region) → is_some (where_true b r) ≡ b
some_where true r = refl
some_where false r = refl

fit_below : (low : ℕ) (regions : List Region) (high addr n : ℕ) → IsLaid low regions high → addr < low → AllFit regions addr n
fit_below low [] high addr n laid lt = tt
fit_below low (r ∷ regions) high addr n laid lt =
    (λ e. absurd (omega (arith, covers_low r addr e, laid.0, lt)), fit_below (end_of r) regions high addr n laid.2 (omega (arith, laid.0, lt)))

pub fit_all : (low : ℕ) (regions : List Region) (high addr n : ℕ) → IsLaid low regions high → is_some (reached regions addr n) ≡ true → AllFit regions addr n
fit_all low [] high addr n laid e = tt
fit_all low (r ∷ regions) high addr n laid e = go (covers r addr) refl e (fit_all (end_of r) regions high addr n laid.2)
  where
    go : (b : Bool) → covers r addr ≡ b
        → is_some (option_and_then (λ s. where_true (leb (addr + n) (end_of s)) s) (cond b (Some r) (find (λ s. covers s addr) regions))) ≡ true
        → (is_some (reached regions addr n) ≡ true → AllFit regions addr n) → AllFit (r ∷ regions) addr n
    go true t e later =
        (λ u. leb-true (addr + n) (end_of r) (sym (some_where (leb (addr + n) (end_of r)) r) ∙ e), fit_below (end_of r) regions high addr n laid.2 (covers_high r addr t))
    go false t e later = (λ u. absurd (true≢false (sym u ∙ t)), later e)

module _ (r : Region) (addr : ℕ) (new : List ℕ) (fits : FitsIn r addr (length new)) where
  length_same : length (written r addr new).bytes ≡ length r.bytes
  length_same = go (covers r addr) refl
    where
      go : (b : Bool) → covers r addr ≡ b → (let put : Region = record r { bytes = pasted r.bytes (addr - r.start) new } in let now : Region = cond b put r in length now.bytes ≡ length r.bytes)
      go true t = length-pasted r.bytes (addr - r.start) new (omega (arith, covers_low r addr t, fits t))
      go false t = refl

  start_same : (written r addr new).start ≡ r.start
  start_same = go (covers r addr)
    where
      go : (b : Bool) → (let put : Region = record r { bytes = pasted r.bytes (addr - r.start) new } in let now : Region = cond b put r in now.start ≡ r.start)
      go true = refl
      go false = refl

  pub end_same : end_of (written r addr new) ≡ end_of r
  end_same = ap₂ (λ (a b : ℕ). a + b) start_same length_same

  pub covers_same : (a : ℕ) → covers (written r addr new) a ≡ covers r a
  covers_same a = ap₂ (λ (s e : ℕ). leb s a && ltb a e) start_same end_same

-- what the regions have is what they had
pub reached_same : (regions : List Region) (addr : ℕ) (new : List ℕ) (a n : ℕ) → AllFit regions addr (length new)
    → is_some (reached (map (λ r. written r addr new) regions) a n) ≡ is_some (reached regions a n)
reached_same [] addr new a n fits = refl
reached_same (r ∷ regions) addr new a n fits =
    ap (λ b. is_some (option_and_then enough (cond b (Some (written r addr new)) (find (λ s. covers s a) (map (λ s. written s addr new) regions))))) (covers_same r addr new fits.0 a)
    ∙ go (covers r a) (reached_same regions addr new a n fits.1)
  where
    enough : Region → Option Region
    enough s = where_true (leb (a + n) (end_of s)) s

    go : (b : Bool) → is_some (reached (map (λ s. written s addr new) regions) a n) ≡ is_some (reached regions a n)
        → is_some (option_and_then enough (cond b (Some (written r addr new)) (find (λ s. covers s a) (map (λ s. written s addr new) regions))))
        ≡ is_some (option_and_then enough (cond b (Some r) (find (λ s. covers s a) regions)))
    go true later =
        some_where (leb (a + n) (end_of (written r addr new))) (written r addr new)
        ∙ ap (λ (e : ℕ). leb (a + n) e) (end_same r addr new fits.0)
        ∙ sym (some_where (leb (a + n) (end_of r)) r)
    go false later = later
