-- The n bytes of a region from an address on, under patches each of which lies in them or has none of them.
use Rattle.std.proofs.Common.{◌≡◌, refl, sym, ◌∙◌, ap, arith, ℕ, ◌+◌, ◌-◌, ◌≤◌, ◌<◌, ◌⊎◌, inl, inr, Bool, true, false, cond, ◌&&◌, List, [], ◌∷◌, length, get_or}
use Rattle.std.specs.Prelude.{filter, fold, nat_le, nat_lt}
use Rattle.std.proofs.lemmas.Bool.{and_parts, and_from, cases_lt, leb-true, ltb-true, le-leb, lt-ltb}
use Rattle.std.proofs.lemmas.List.{ext_get_or}
use Rattle.cell_world.specs.World.{Region}
use Rattle.cell_world.specs.Running.Memory.{covers, pasted}
use Rattle.cell_world.specs.Linked.Relink.{Patch, patched}
use Rattle.cell_num.specs.Lists.{In}
use Rattle.cell_lemmas.proofs.Fields.Patches.{HasShape, AllEndIn, shape_by, length-pasted, pasted_before, pasted_in, pasted_after}
use Rattle.cell_lemmas.proofs.Fields.Slices.{slice, slice_length, slice_at, untouched}
use Rattle.cell_lemmas.proofs.Fields.Writes.{written_in}
use Rattle.cell_lemmas.proofs.Placement.Offsets.{Apart}

-- a write that lies in the slice is the same write in it
pub paste_inside : (bytes new : List ℕ) (j i n : ℕ) → i ≤ j → j + length new ≤ i + n → i + n ≤ length bytes → slice (pasted bytes j new) i n ≡ pasted (slice bytes i n) (j - i) new
paste_inside bytes new j i n a b h =
    ext_get_or 0 (slice (pasted bytes j new) i n) (pasted (slice bytes i n) (j - i) new)
    (size (pasted bytes j new) (omega (arith, long, h)) ∙ sym (length-pasted (slice bytes i n) new (j - i) inside ∙ size bytes h))
    (λ k l. same k (omega (arith, l, size (pasted bytes j new) (omega (arith, long, h)))))
  where
    size : (xs : List ℕ) → i + n ≤ length xs → length (slice xs i n) ≡ n
    size xs m = slice_length xs i n ∙ omega (arith, m)

    ends : j + length new ≤ length bytes
    ends = omega (arith, b, h)

    long : length (pasted bytes j new) ≡ length bytes
    long = length-pasted bytes new j ends

    inside : j - i + length new ≤ length (slice bytes i n)
    inside = omega (arith, size bytes h, a, b)

    same : (k : ℕ) → k < n → get_or (slice (pasted bytes j new) i n) k 0 ≡ get_or (pasted (slice bytes i n) (j - i) new) k 0
    same k m = slice_at (pasted bytes j new) i n k m ∙ go (cases_lt (i + k) j) (cases_lt (i + k) (j + length new))
      where
        go : (i + k < j) ⊎ (j ≤ i + k) → (i + k < j + length new) ⊎ (j + length new ≤ i + k) → get_or (pasted bytes j new) (i + k) 0 ≡ get_or (pasted (slice bytes i n) (j - i) new) k 0
        go (inl x) y =
            pasted_before bytes new j (i + k) ends x
            ∙ sym (pasted_before (slice bytes i n) new (j - i) k inside (omega (arith, x, a)) ∙ slice_at bytes i n k m)
        go (inr x) (inl y) =
            pasted_in bytes new j (i + k) ends x y
            ∙ sym (pasted_in (slice bytes i n) new (j - i) k inside (omega (arith, x, a)) (omega (arith, y, a)) ∙ ap (λ (z : ℕ). get_or new z 0) (omega (arith, x, a)))
        go (inr x) (inr y) =
            pasted_after bytes new j (i + k) ends y
            ∙ sym (pasted_after (slice bytes i n) new (j - i) k inside (omega (arith, y, a)) ∙ slice_at bytes i n k m)

-- n bytes from the address x on
module _ (x n : ℕ) where
  abbrev pub window : Region → List ℕ
  window r = slice r.bytes (x - r.start) n

  abbrev pub begins_in : Patch → Bool
  begins_in p = nat_le x p.addr && nat_lt p.addr (x + n)

  -- the patch lies in them
  pub record IsIn (p : Patch) : Type 0 where
    pub begins : begins_in p ≡ true
    pub ends : p.addr + length p.bytes ≤ x + n

  -- it has none of them
  pub record IsOut (p : Patch) : Type 0 where
    pub begins : begins_in p ≡ false
    pub apart : Apart p.addr (length p.bytes) x n

  abbrev pub pasted_here : List ℕ → Patch → List ℕ
  pasted_here bytes p = pasted bytes (p.addr - x) p.bytes

  -- a region of m bytes that has them
  module _ (a m : ℕ) (low : a ≤ x) (high : x + n ≤ a + m) where
    in_window : (r : Region) → HasShape a m r → (p : Patch) → IsIn p → window (patched r p) ≡ pasted_here (window r) p
    in_window r s p i =
        let b = and_parts (nat_le x p.addr) (nat_lt p.addr (x + n)) i.begins in
        let l : x ≤ p.addr = leb-true x p.addr b.0 in
        let g : p.addr < x + n = ltb-true p.addr (x + n) b.1 in
        let c : covers r p.addr ≡ true = and_from _ _ (le-leb r.start p.addr (omega (arith, s.0, low, l))) (lt-ltb p.addr (r.start + length r.bytes) (omega (arith, s.0, s.1, high, g))) in
        ap window (written_in r p.addr p.bytes c)
        ∙ (paste_inside r.bytes p.bytes (p.addr - r.start) (x - r.start) n (omega (arith, s.0, low, l)) (omega (arith, s.0, low, l, i.ends)) (omega (arith, s.0, s.1, low, high))
        ∙ ap (λ (k : ℕ). pasted (window r) k p.bytes) (omega (arith, s.0, low, l)))

    out_of_window : (r : Region) → HasShape a m r → (p : Patch) → AllEndIn a m (p ∷ []) → IsOut p → window (patched r p) ≡ window r
    out_of_window r s p e o = go (covers r p.addr) refl
      where
        go : (b : Bool) → covers r p.addr ≡ b → window (cond b (record r { bytes = pasted r.bytes (p.addr - r.start) p.bytes }) r) ≡ window r
        go false c = refl
        go true c =
            let k = and_parts (nat_le r.start p.addr) (nat_lt p.addr (r.start + length r.bytes)) c in
            let l : r.start ≤ p.addr = leb-true r.start p.addr k.0 in
            let g : p.addr < r.start + length r.bytes = ltb-true p.addr (r.start + length r.bytes) k.1 in
            let f : p.addr + length p.bytes ≤ a + m = e p (inl refl) (omega (arith, s.0, l)) (omega (arith, s.0, s.1, g)) in
            untouched r.bytes p.bytes (p.addr - r.start) (x - r.start) n (omega (arith, s.0, s.1, l, f)) (turned l o.apart)
          where
            turned : r.start ≤ p.addr → Apart p.addr (length p.bytes) x n → (x - r.start + n ≤ p.addr - r.start) ⊎ (p.addr - r.start + length p.bytes ≤ x - r.start)
            turned l (inl h) = inr (omega (arith, s.0, low, l, h))
            turned l (inr h) = inl (omega (arith, s.0, low, l, h))

    -- the patches that lie in them are made there, in their order
    pub window_by : (ps : List Patch) → AllEndIn a m ps → ((p : Patch) → In p ps → IsIn p ⊎ IsOut p) → (r : Region) → HasShape a m r
        → window (fold patched r ps) ≡ fold pasted_here (window r) (filter begins_in ps)
    window_by [] e c r s = refl
    window_by (p ∷ ps) e c r s = go (c p (inl refl)) (window_by ps (λ q i. e q (inr i)) (λ q i. c q (inr i)) (patched r p) (shape_by a m (p ∷ []) (λ q i. e q (head q i)) r s))
      where
        head : (q : Patch) → In q (p ∷ []) → In q (p ∷ ps)
        head q (inl h) = inl h
        head q (inr h) = absurd h

        go : IsIn p ⊎ IsOut p → window (fold patched (patched r p) ps) ≡ fold pasted_here (window (patched r p)) (filter begins_in ps)
            → window (fold patched (patched r p) ps) ≡ fold pasted_here (window r) (cond (begins_in p) (p ∷ filter begins_in ps) (filter begins_in ps))
        go (inl i) h =
            h ∙ (ap (λ (b : List ℕ). fold pasted_here b (filter begins_in ps)) (in_window r s p i)
            ∙ ap (λ (b : Bool). fold pasted_here (window r) (cond b (p ∷ filter begins_in ps) (filter begins_in ps))) (sym i.begins))
        go (inr o) h =
            h ∙ (ap (λ (b : List ℕ). fold pasted_here b (filter begins_in ps)) (out_of_window r s p (λ q i. e q (head q i)) o)
            ∙ ap (λ (b : Bool). fold pasted_here (window r) (cond b (p ∷ filter begins_in ps) (filter begins_in ps))) (sym o.begins))
