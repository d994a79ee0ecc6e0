-- A store into regions that stand apart changes one of them: no region's shape, none that isn't writable, and no byte that the store doesn't meet.
use Rattle.std.proofs.Common.{◌≡◌, refl, sym, ◌∙◌, ap, subst, arith, ℕ, ◌+◌, ◌-◌, ◌≤◌, ◌⊎◌, inl, inr, Bool, true, false, cond, ◌&&◌, List, [], ◌∷◌, length, map, true≢false, Option, Some, None}
use Rattle.std.specs.Prelude.{find, nat_le, nat_lt, slice_range, option_map, option_and_then}
use Rattle.std.proofs.lemmas.Bool.{leb-true}
use Rattle.cell_num.specs.Lists.{each_pair, where_true, In}
use Rattle.cell_world.specs.World.{Region}
use Rattle.cell_world.specs.Running.Memory.{covers, end_of, pasted, part_of, read_in, region_in, written}
use Rattle.cell_world.specs.Coherent.{Shape, shape_of, ends_before}
use Rattle.cell_world.specs.Running.Execute.{allows}
use Rattle.cell_num.proofs.Elements.{found-In, map-In, map_same, pairs-In}
use Rattle.cell_lemmas.proofs.Fields.Relinked.{map_twice}
use Rattle.cell_num.proofs.Sublists.{and_left, and_right, pairs_kept}
use Rattle.cell_lemmas.proofs.Fields.Slices.{range_untouched}
use Rattle.cell_lemmas.proofs.Fields.Writes.{Holds, begins_below, ends_above, written_in, written_out, same_length}

pub shape_apart : (r r' s s' : Region) → shape_of r ≡ shape_of r' → shape_of s ≡ shape_of s' → ends_before r s ≡ ends_before r' s'
shape_apart r r' s s' e f =
    ap (λ (x : Shape). nat_le (x.start + x.size) s.start) e ∙ ap (λ (x : Shape). nat_le (r'.start + length r'.bytes) x.start) f

-- where a map keeps the test, what is found is the same but for the map
find_mapped : {X : Type 0} (f : X → X) (p : X → Bool) (xs : List X) → ((x : X) → In x xs → p (f x) ≡ p x) → find p (map f xs) ≡ option_map f (find p xs)
find_mapped f p [] e = refl
find_mapped f p (x ∷ xs) e =
    ap (λ b. cond b (Some (f x)) (find p (map f xs))) (e x (inl refl)) ∙ go (p x) (find_mapped f p xs (λ y i. e y (inr i)))
  where
    go : (b : Bool) → find p (map f xs) ≡ option_map f (find p xs) → cond b (Some (f x)) (find p (map f xs)) ≡ option_map f (cond b (Some x) (find p xs))
    go true rest = refl
    go false rest = rest

module _ (regions : List Region) (apart : each_pair ends_before regions ≡ true) where
  pub one_covers : (r s : Region) (addr : ℕ) → In r regions → In s regions → covers r addr ≡ true → covers s addr ≡ true → r ≡ s
  one_covers r s addr i j a b = go (pairs-In ends_before regions apart r s i j)
    where
      go : (r ≡ s) ⊎ ((ends_before r s ≡ true) ⊎ (ends_before s r ≡ true)) → r ≡ s
      go (inl e) = e
      go (inr (inl l)) = absurd (omega (arith, leb-true (r.start + length r.bytes) s.start l, begins_below s addr b, ends_above r addr a))
      go (inr (inr l)) = absurd (omega (arith, leb-true (s.start + length s.bytes) r.start l, begins_below r addr a, ends_above s addr b))

  module _ (addr : ℕ) (new : List ℕ) (may : allows regions (λ p. p.write) addr (length new) ≡ true) where
    -- the region of the store
    record Target : Type 0 where
      pub region : Region
      pub there : In region regions
      pub covered : covers region addr ≡ true
      pub writable : region.permission.write ≡ true
      pub ends : addr + length new ≤ region.start + length region.bytes

    target : Target
    target = go (region_in regions addr) refl may
      where
        go : (o : Option Region) → region_in regions addr ≡ o → (elim o as (λ _. Bool) [ None ↦ false | Some r ↦ r.permission.write && nat_le (addr + length new) (r.start + length r.bytes) ]) ≡ true → Target
        go None e t = absurd (true≢false (sym t))
        go (Some r) e t =
            let f = found-In (λ x. covers x addr) regions r e in
            record {
              region = r;
              there = f.0;
              covered = f.1;
              writable = and_left r.permission.write (nat_le (addr + length new) (r.start + length r.bytes)) t;
              ends = leb-true (addr + length new) (r.start + length r.bytes) (and_right r.permission.write (nat_le (addr + length new) (r.start + length r.bytes)) t);
            }

    -- a region that covers the store's address holds it, and is writable
    pub holds_store : (r : Region) → In r regions → covers r addr ≡ true → Holds addr new r × (r.permission.write ≡ true)
    holds_store r i c =
        let f : Target = target in
        subst (λ (x : Region). Holds addr new x × (x.permission.write ≡ true)) (one_covers f.region r addr f.there i f.covered c)
        (record { after_start = begins_below f.region addr f.covered; before_end = ends_above f.region addr f.covered; ends = f.ends }, f.writable)

    pub keeps_shape : (r : Region) → In r regions → shape_of (written r addr new) ≡ shape_of r
    keeps_shape r i = go (covers r addr) refl
      where
        go : (b : Bool) → covers r addr ≡ b → shape_of (written r addr new) ≡ shape_of r
        go false c = ap shape_of (written_out r addr new c)
        go true c =
            ap shape_of (written_in r addr new c)
            ∙ ap (λ n. record { start = r.start; permission = r.permission; size = n }) (same_length r addr new (holds_store r i c).0)

    abbrev pub stored_regions : List Region
    stored_regions = map (λ r. written r addr new) regions

    pub keeps_shapes : map shape_of stored_regions ≡ map shape_of regions
    keeps_shapes = map_twice shape_of (λ r. written r addr new) regions ∙ map_same _ _ regions keeps_shape

    pub keeps_apart : each_pair ends_before stored_regions ≡ true
    keeps_apart = pairs_kept ends_before ends_before (λ r. written r addr new) regions (λ x y i j. shape_apart (written x addr new) x (written y addr new) y (keeps_shape x i) (keeps_shape y j)) apart

    pub keeps_read_only : (r : Region) → In r regions → r.permission.write ≡ false → In r stored_regions
    keeps_read_only r i n = go (covers r addr) refl
      where
        go : (b : Bool) → covers r addr ≡ b → In r stored_regions
        go true c = absurd (true≢false (sym (holds_store r i c).1 ∙ n))
        go false c = subst (λ (x : Region). In x stored_regions) (written_out r addr new c) (map-In (λ x. written x addr new) regions r i)

    covers_still : (x : ℕ) (r : Region) → In r regions → covers (written r addr new) x ≡ covers r x
    covers_still x r i = ap (λ (s : Shape). nat_le s.start x && nat_lt x (s.start + s.size)) (keeps_shape r i)

    part_still : (r : Region) → In r regions → (p n : ℕ) → r.start ≤ p → (p + n ≤ addr) ⊎ (addr + length new ≤ p) → part_of (written r addr new) p n ≡ part_of r p n
    part_still r i p n l away = go (covers r addr) refl
      where
        go : (b : Bool) → covers r addr ≡ b → part_of (written r addr new) p n ≡ part_of r p n
        go false c = ap (λ x. part_of x p n) (written_out r addr new c)
        go true c =
            let k : Holds addr new r = (holds_store r i c).0 in
            ap (λ x. part_of x p n) (written_in r addr new c)
            ∙ (ap (λ (m : ℕ). where_true (nat_le (p + n) (r.start + m)) (slice_range (pasted r.bytes (addr - r.start) new) (p - r.start) (p - r.start + n))) (same_length r addr new k)
            ∙ ap (where_true (nat_le (p + n) (end_of r))) (range_untouched r.bytes new (addr - r.start) (p - r.start) n (omega (arith, k.after_start, k.ends)) (moved away k)))
          where
            moved : (p + n ≤ addr) ⊎ (addr + length new ≤ p) → Holds addr new r → (p - r.start + n ≤ addr - r.start) ⊎ (addr - r.start + length new ≤ p - r.start)
            moved (inl a) k = inl (omega (arith, a, l, k.after_start))
            moved (inr a) k = inr (omega (arith, a, l, k.after_start))

    -- bytes that the store doesn't meet are as they were
    pub keeps_bytes : (p n : ℕ) → (p + n ≤ addr) ⊎ (addr + length new ≤ p) → read_in stored_regions p n ≡ read_in regions p n
    keeps_bytes p n away = ap (option_and_then (λ r. part_of r p n)) (find_mapped (λ r. written r addr new) (λ r. covers r p) regions (covers_still p)) ∙ go (region_in regions p) refl
      where
        go : (o : Option Region) → region_in regions p ≡ o → option_and_then (λ r. part_of r p n) (option_map (λ r. written r addr new) o) ≡ option_and_then (λ r. part_of r p n) o
        go None e = refl
        go (Some r) e = let f = found-In (λ x. covers x p) regions r e in part_still r f.0 p n (begins_below r p f.1) away
