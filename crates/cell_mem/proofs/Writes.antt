-- A write into one region of those that stand apart.
use Rattle.std.proofs.Common.{◌≡◌, ℕ, zero, suc, ◌+◌, ◌-◌, ◌*◌, ◌<◌, ◌≤◌, ◌/◌, Bool, true, false, cond, ◌&&◌, List, [], ◌∷◌, ◌++◌, Option, Some, length, take, drop, map, leb, ltb, refl, sym, ap, ◌∙◌, subst, arith, length-append, length-drop}
use Rattle.std.specs.Prelude.{option_map}
use Rattle.std.specs.List.{find}
use Rattle.std.proofs.lemmas.List.{length-take-le}
use Rattle.cell_num.specs.Bits.{bytes_of}
use Rattle.cell_world.specs.World.{Region}
use Rattle.cell_world.specs.Running.Memory.{covers, end_of, pasted, written}
use Rattle.cell_mem.specs.Index.{IsLaid, IsIndex, covers_page, first_page}
use Rattle.cell_mem.specs.Writing.{put}
use Rattle.cell_mem.proofs.Laid.{covers_low, covers_high, not_below, find_here, find_skip}

pub length-pasted : (bytes : List ℕ) (i : ℕ) (new : List ℕ) → i + length new ≤ length bytes → length (pasted bytes i new) ≡ length bytes
length-pasted bytes i new le =
    omega (arith, length-append (take i bytes ++ new) (drop (i + length new) bytes), length-append (take i bytes) new, length-take-le i bytes (omega arith), length-drop (i + length new) bytes)

pub untouched : (low : ℕ) (rs : List Region) (high addr : ℕ) (new : List ℕ) → IsLaid low rs high → addr < low → map (λ r. written r addr new) rs ≡ rs
untouched low [] high addr new h lt = refl
untouched low (r ∷ rs) high addr new h lt =
    ap (λ b. cond b (put addr new r) r ∷ map (λ s. written s addr new) rs) (not_below r addr (omega (arith, h.0)))
    ∙ ap (λ ss. r ∷ ss) (untouched (end_of r) rs high addr new h.2 (omega (arith, h.0)))

-- a write keeps where the one region lies that has the bytes
module _ (a : ℕ) (new : List ℕ) where
  abbrev now : Region → Region
  now s = written s a new

  same_length : (r : Region) → a + length new ≤ end_of r → covers r a ≡ true → length (now r).bytes ≡ length r.bytes
  same_length r fits c =
      ap (λ b. length (cond b (put a new r) r).bytes) c
      ∙ length-pasted r.bytes (a - r.start) new (omega (arith, fits, covers_low r a c))

  abbrev Fits : List Region → Type 0
  Fits rs = (r : Region) → find (λ s. covers s a) rs ≡ Some r → a + length new ≤ end_of r

  same_lengths : (r : Region) (rs : List Region) → Fits (r ∷ rs) → length (now r).bytes ≡ length r.bytes
  same_lengths r rs fits = go (covers r a) refl
    where
      go : (b : Bool) → covers r a ≡ b → length (now r).bytes ≡ length r.bytes
      go true c = same_length r (fits r (find_here (λ s. covers s a) r rs c)) c
      go false c = ap (λ b. length (cond b (put a new r) r).bytes) c

  same_start : (r : Region) → (now r).start ≡ r.start
  same_start r = go (covers r a)
    where
      go : (b : Bool) → (cond b (put a new r) r).start ≡ r.start
      go true = refl
      go false = refl

  -- what is written is written in the first region that covers the address, so the others stay
  rest_written : (low : ℕ) (r : Region) (rs : List Region) (high : ℕ) → IsLaid low (r ∷ rs) high → (P : List Region → Type 0)
      → (covers r a ≡ true → P rs) → (covers r a ≡ false → P (map now rs)) → P (map now rs)
  rest_written low r rs high h P here there = go (covers r a) refl
    where
      go : (b : Bool) → covers r a ≡ b → P (map now rs)
      go true c = subst P (sym (untouched (end_of r) rs high a new h.2 (covers_high r a c))) (here c)
      go false c = there c

  pub laid_written : (low : ℕ) (rs : List Region) (high : ℕ) → IsLaid low rs high → Fits rs → IsLaid low (map now rs) high
  laid_written low [] high h fits = h
  laid_written low (r ∷ rs) high h fits =
      let same = same_lengths r rs fits in
      let start = same_start r in
      let ends : end_of r ≡ end_of (now r) = omega (arith, same, start) in
      let rest : IsLaid (end_of r) (map now rs) high =
      rest_written low r rs high h (λ ss. IsLaid (end_of r) ss high) (λ c. h.2)
      (λ c. laid_written (end_of r) rs high h.2 (λ s e. fits s (find_skip (λ t. covers t a) r rs c ∙ e))) in (
        omega (arith, start, h.0),
        record { aligned = rw start h.1.aligned; whole = rw same h.1.whole; filled = omega (arith, same, h.1.filled) },
        subst (λ n. IsLaid n (map now rs) high) ends rest,
      )

  pub page_written : (base page low : ℕ) (rs : List Region) (high : ℕ) → IsLaid low rs high → Fits rs
      → option_map (first_page base) (find (covers_page base page) (map now rs)) ≡ option_map (first_page base) (find (covers_page base page) rs)
  page_written base page low [] high h fits = refl
  page_written base page low (r ∷ rs) high h fits =
      let same = same_lengths r rs fits in
      let start = same_start r in
      let rest : option_map (first_page base) (find (covers_page base page) (map now rs)) ≡ option_map (first_page base) (find (covers_page base page) rs) =
      rest_written low r rs high h (λ ss. option_map (first_page base) (find (covers_page base page) ss) ≡ option_map (first_page base) (find (covers_page base page) rs)) (λ c. refl)
      (λ c. page_written base page (end_of r) rs high h.2 (λ s e. fits s (find_skip (λ t. covers t a) r rs c ∙ e))) in
      let covered : covers_page base page (now r) ≡ covers_page base page r =
      ap (λ n. leb n (base + 4096 * page) && ltb (base + 4096 * page) (n + length (now r).bytes)) start
      ∙ ap (λ n. leb r.start (base + 4096 * page) && ltb (base + 4096 * page) (r.start + n)) same in
      ap (λ b. option_map (first_page base) (cond b (Some (now r)) (find (covers_page base page) (map now rs)))) covered
      ∙ step (covers_page base page r) (find (covers_page base page) (map now rs)) (find (covers_page base page) rs) (ap (λ n. (n - base) / 4096) start) rest
    where
      step : (b : Bool) (x y : Option Region) → first_page base (now r) ≡ first_page base r → option_map (first_page base) x ≡ option_map (first_page base) y
          → option_map (first_page base) (cond b (Some (now r)) x) ≡ option_map (first_page base) (cond b (Some r) y)
      step true x y s e = ap Some s
      step false x y s e = e

  pub index_written : (base low : ℕ) (rs : List Region) (high : ℕ) (firsts : List (Option ℕ)) → IsLaid low rs high → Fits rs → IsIndex base rs firsts → IsIndex base (map now rs) firsts
  index_written base low rs high firsts h fits index page lt = index page lt ∙ sym (page_written base page low rs high h fits)

pub length-bytes_of : (width value : ℕ) → length (bytes_of width value) ≡ width
length-bytes_of zero value = refl
length-bytes_of (suc width) value = ap suc (length-bytes_of width (value / 256))
