-- Patches of which some are changed: made over the former ones, the changed ones alone leave what all of them leave.
use Rattle.std.proofs.Common.{◌≡◌, refl, sym, ◌∙◌, ap, subst, arith, ℕ, ◌+◌, ◌-◌, ◌≤◌, ◌<◌, ◌⊎◌, inl, inr, Bool, true, false, cond, ◌&&◌, List, [], ◌∷◌, map, length, get_or}
use Rattle.std.specs.Prelude.{filter, fold, nat_le, nat_lt}
use Rattle.std.specs.List.{list_all}
use Rattle.std.proofs.lemmas.Bool.{and_parts, cases_lt}
use Rattle.std.proofs.lemmas.List.{ext_get_or}
use Rattle.cell_num.specs.Lists.{each_pair, In}
use Rattle.cell_world.specs.World.{Region}
use Rattle.cell_world.specs.Running.Memory.{covers, pasted, written}
use Rattle.cell_world.specs.Linked.Relink.{Patch, patched}
use Rattle.cell_num.proofs.Elements.{In-map, all-In}
use Rattle.cell_lemmas.proofs.Fields.Patches.{AllEndIn, EndsIn, length-pasted, pasted_before, pasted_in, pasted_after, shape_by, HasShape}
use Rattle.cell_num.proofs.Sublists.{fold_commutes}
use Rattle.cell_lemmas.proofs.Fields.Writes.{Holds, covered, begins_below, ends_above, written_exchanged, written_in, written_out}
use Rattle.cell_lemmas.proofs.Placement.Offsets.{Apart}

-- as long a write at one place, twice
paste_twice : (b u v : List ℕ) (i : ℕ) → i + length u ≤ length b → length u ≡ length v → pasted (pasted b i u) i v ≡ pasted b i v
paste_twice b u v i h e =
    ext_get_or 0 _ _ (length-pasted (pasted b i u) v i (omega (arith, first, h, e)) ∙ (first ∙ sym (length-pasted b v i (omega (arith, h, e))))) (λ k l. byte k)
  where
    first : length (pasted b i u) ≡ length b
    first = length-pasted b u i h

    byte : (k : ℕ) → get_or (pasted (pasted b i u) i v) k 0 ≡ get_or (pasted b i v) k 0
    byte k = go (cases_lt k i) (cases_lt k (i + length v))
      where
        h2 : i + length v ≤ length (pasted b i u)
        h2 = omega (arith, first, h, e)

        h1 : i + length v ≤ length b
        h1 = omega (arith, h, e)

        go : (k < i) ⊎ (i ≤ k) → (k < i + length v) ⊎ (i + length v ≤ k) → get_or (pasted (pasted b i u) i v) k 0 ≡ get_or (pasted b i v) k 0
        go (inl l) y = pasted_before (pasted b i u) v i k h2 l ∙ (pasted_before b u i k h l ∙ sym (pasted_before b v i k h1 l))
        go (inr l) (inl m) = pasted_in (pasted b i u) v i k h2 l m ∙ sym (pasted_in b v i k h1 l m)
        go (inr l) (inr m) = pasted_after (pasted b i u) v i k h2 m ∙ (pasted_after b u i k h (omega (arith, m, e)) ∙ sym (pasted_after b v i k h1 m))

written_twice : (r : Region) (addr : ℕ) (u v : List ℕ) → Holds addr u r → length u ≡ length v → written (written r addr u) addr v ≡ written r addr v
written_twice r addr u v h e =
    ap (λ x. written x addr v) (written_in r addr u (covered_by r h))
    ∙ (written_in (record r { bytes = pasted r.bytes (addr - r.start) u }) addr v (ap (λ n. nat_le r.start addr && nat_lt addr (r.start + n)) same ∙ covered_by r h)
    ∙ (ap (λ (b : List ℕ). record r { bytes = b }) (paste_twice r.bytes u v (addr - r.start) (omega (arith, h.after_start, h.before_end, h.ends)) e)
    ∙ sym (written_in r addr v (covered_by r h))))
  where
    covered_by : (r : Region) → Holds addr u r → covers r addr ≡ true
    covered_by r h = covered r addr h.after_start h.before_end

    same : length (pasted r.bytes (addr - r.start) u) ≡ length r.bytes
    same = length-pasted r.bytes u (addr - r.start) (omega (arith, h.after_start, h.before_end, h.ends))

uncovered_still : (r q : Region) (addr : ℕ) → q.start ≡ r.start → length q.bytes ≡ length r.bytes → covers r addr ≡ false → covers q addr ≡ false
uncovered_still r q addr s l c = ap (λ (n : ℕ). nat_le n addr && nat_lt addr (n + length q.bytes)) s ∙ (ap (λ (n : ℕ). nat_le r.start addr && nat_lt addr (r.start + n)) l ∙ c)

holds_in : (r : Region) (p : Patch) → EndsIn r.start (length r.bytes) p → covers r p.addr ≡ true → Holds p.addr p.bytes r
holds_in r p e c =
    let lo = begins_below r p.addr c in
    let hi = ends_above r p.addr c in
    record { after_start = lo; before_end = hi; ends = e lo hi }

-- a patch over a former one at its place: it may as well come after patches that are apart from it
moved : (p o : Patch) (ps : List Patch) (r : Region) → p.addr ≡ o.addr → length o.bytes ≡ length p.bytes → AllEndIn r.start (length r.bytes) (o ∷ ps)
    → ((q : Patch) → In q ps → Apart p.addr (length p.bytes) q.addr (length q.bytes)) → fold patched (patched r p) ps ≡ patched (fold patched (patched r o) ps) p
moved p o ps r a l ends far = go (covers r p.addr) refl
  where
    ends_o : EndsIn r.start (length r.bytes) o
    ends_o = ends o (inl refl)

    ends_p : EndsIn r.start (length r.bytes) p
    ends_p x y = let z = ends_o (omega (arith, x, a)) (omega (arith, y, a)) in omega (arith, z, a, l)

    go : (b : Bool) → covers r p.addr ≡ b → fold patched (patched r p) ps ≡ patched (fold patched (patched r o) ps) p
    go false c =
        let co : covers r o.addr ≡ false = subst (λ n. covers r n ≡ false) a c in
        let s : HasShape r.start (length r.bytes) (fold patched r ps) = shape_by r.start (length r.bytes) ps (λ q m. ends q (inr m)) r (refl, refl) in
        ap (λ x. fold patched x ps) (written_out r p.addr p.bytes c)
        ∙ (sym (written_out (fold patched r ps) p.addr p.bytes (uncovered_still r (fold patched r ps) p.addr s.0 s.1 c))
        ∙ ap (λ x. patched (fold patched x ps) p) (sym (written_out r o.addr o.bytes co)))
    go true c =
        let h : Holds p.addr p.bytes r = holds_in r p ends_p c in
        let ho : Holds o.addr o.bytes r = holds_in r o ends_o (subst (λ n. covers r n ≡ true) a c) in
        let after : Holds p.addr p.bytes (patched r o) = subst (λ (q : Region). Holds p.addr p.bytes q) (sym (written_in r o.addr o.bytes (subst (λ n. covers r n ≡ true) a c)))
        (record { after_start = h.after_start; before_end = omega (arith, h.before_end, same ho); ends = omega (arith, h.ends, same ho) }) in
        ap (λ x. fold patched x ps) (sym (subst (λ n. written (written r n o.bytes) p.addr p.bytes ≡ written r p.addr p.bytes) a
        (written_twice r p.addr o.bytes p.bytes (subst (λ n. Holds n o.bytes r) (sym a) ho) l)))
        ∙ (fold_commutes patched (λ x. patched x p) (Holds p.addr p.bytes) ps (λ q m x k. written_exchanged x p.addr p.bytes q.addr q.bytes k (turn p.addr (length p.bytes) q.addr (length q.bytes) (far q m))) (patched r o) after).0
      where
        same : Holds o.addr o.bytes r → length (pasted r.bytes (o.addr - r.start) o.bytes) ≡ length r.bytes
        same k = length-pasted r.bytes o.bytes (o.addr - r.start) (omega (arith, k.after_start, k.before_end, k.ends))

        turn : (x m y n : ℕ) → Apart x m y n → (y + n ≤ x) ⊎ (x + m ≤ y)
        turn x m y n (inl k) = inr k
        turn x m y n (inr k) = inl k

module _ {X : Type 0} (former now : X → Patch) (changes : X → Bool) where
  -- at one place, as long, and the same where nothing changes
  pub record IsUpdate (x : X) : Type 0 where
    pub addr : (now x).addr ≡ (former x).addr
    pub size : length (former x).bytes ≡ length (now x).bytes
    pub kept : changes x ≡ false → now x ≡ former x

  pub overwritten : (t : X → X → Bool) (xs : List X) → each_pair t xs ≡ true
      → ((x y : X) → In x xs → In y xs → t x y ≡ true → Apart (now x).addr (length (now x).bytes) (former y).addr (length (former y).bytes))
      → ((x : X) → In x xs → IsUpdate x) → (r : Region) → AllEndIn r.start (length r.bytes) (map former xs)
      → fold patched r (map now xs) ≡ fold patched (fold patched r (map former xs)) (map now (filter changes xs))
  overwritten t [] d far u r e = refl
  overwritten t (x ∷ xs) d far u r e =
      go (changes x) refl
      (overwritten t xs pairs.1 (λ y z m n. far y z (inr m) (inr n)) (λ y m. u y (inr m)) (patched r (now x))
      (subst (λ (s : ℕ). AllEndIn s (length (patched r (now x)).bytes) (map former xs)) (sym shape.0) (subst (λ (n : ℕ). AllEndIn r.start n (map former xs)) (sym shape.1) (λ q m. e q (inr m)))))
    where
      pairs : (list_all (t x) xs ≡ true) × (each_pair t xs ≡ true)
      pairs = and_parts (list_all (t x) xs) (each_pair t xs) d

      own : IsUpdate x
      own = u x (inl refl)

      ends_own : EndsIn r.start (length r.bytes) (now x)
      ends_own a b = let o = e (former x) (inl refl) (omega (arith, a, own.addr)) (omega (arith, b, own.addr)) in omega (arith, o, own.addr, own.size)

      only : AllEndIn r.start (length r.bytes) (now x ∷ [])
      only q (inl m) = subst (EndsIn r.start (length r.bytes)) (sym m) ends_own
      only q (inr m) = absurd m

      shape : HasShape r.start (length r.bytes) (patched r (now x))
      shape = shape_by r.start (length r.bytes) (now x ∷ []) only r (refl, refl)

      far_own : (q : Patch) → In q (map former xs) → Apart (now x).addr (length (now x).bytes) q.addr (length q.bytes)
      far_own q m =
          let y = In-map former xs q m in
          subst (λ (z : Patch). Apart (now x).addr (length (now x).bytes) z.addr (length z.bytes)) (sym y.2) (far x y.0 (inl refl) (inr y.1) (all-In (t x) xs pairs.0 y.0 y.1))

      go : (b : Bool) → changes x ≡ b → fold patched (patched r (now x)) (map now xs) ≡ fold patched (fold patched (patched r (now x)) (map former xs)) (map now (filter changes xs))
          → fold patched (patched r (now x)) (map now xs) ≡ fold patched (fold patched (patched r (former x)) (map former xs)) (map now (cond b (x ∷ filter changes xs) (filter changes xs)))
      go false k rest = rest ∙ ap (λ (p : Patch). fold patched (fold patched (patched r p) (map former xs)) (map now (filter changes xs))) (own.kept k)
      go true k rest = rest ∙ ap (λ (q : Region). fold patched q (map now (filter changes xs))) (moved (now x) (former x) (map former xs) r own.addr own.size e far_own)
