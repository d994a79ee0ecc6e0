-- A region in the lowest free run stays apart from the others and in the space.
use Rattle.std.proofs.Common.{◌≡◌, refl, sym, ◌∙◌, ap, subst, arith, ℕ, zero, suc, ◌+◌, ◌-◌, ◌*◌, ◌≤◌, ◌<◌, ◌⊎◌, inl, inr, Bool, true, false, cond, not, ◌&&◌, List, [], ◌∷◌, map, length, replicate, true≢false, Option, Some, None, Ok, Err, length-append}
use Rattle.std.proofs.lemmas.List.{length-replicate, length-map, get_or_past}
use Rattle.std.specs.Prelude.{◌/◌, ◌%◌, ◌==◌, nat_lt, nat_le, slice_index_or}
use Rattle.std.specs.List.{list_all}
use Rattle.std.proofs.lemmas.Bool.{and_parts, and_from, cases_lt, ltb-true, ltb-false, lt-ltb, leb-true, le-leb, le-ltb, eqb-true, eq-eqb}
use Rattle.cell_num.specs.Lists.{each_pair, from_on, upto, In}
use Rattle.cell_world.specs.World.{World, Region}
use Rattle.cell_world.specs.Placed.Layout.{to_pages, gap}
use Rattle.cell_world.specs.Running.Memory.{covers}
use Rattle.cell_world.specs.Placed.Pages.{is_free, is_free_run, lowest_run, longest_run}
use Rattle.cell_world.specs.Placed.Place.{is_taken, page_table, with_region, start_of_run}
use Rattle.cell_world.specs.Coherent.{Shape, shape_of, with_shape, is_in_space, ends_before}
use Rattle.cell_lemmas.specs.Clear.{IsClear}
use Rattle.cell_num.proofs.Elements.{all-In, In-all, none-In, found-In}
use Rattle.cell_lemmas.proofs.Naming.Appended.{ok_same}
use Rattle.cell_world.specs.Outcome.{Outcome}
use Rattle.cell_world.specs.declared.refusal.Refusal.TheVariants.{Exhausted}

-- the regions in order have the shapes in order
pub shape_inserted : (r : Region) (regions : List Region) → map shape_of (with_region r regions) ≡ with_shape (shape_of r) (map shape_of regions)
shape_inserted r [] = refl
shape_inserted r (s ∷ regions) = go (nat_lt r.start s.start) (shape_inserted r regions)
  where
    go : (b : Bool) → map shape_of (with_region r regions) ≡ with_shape (shape_of r) (map shape_of regions)
        → map shape_of (cond b (r ∷ s ∷ regions) (s ∷ with_region r regions)) ≡ cond b (shape_of r ∷ shape_of s ∷ map shape_of regions) (shape_of s ∷ with_shape (shape_of r) (map shape_of regions))
    go true e = refl
    go false e = ap (λ (xs : List Shape). shape_of s ∷ xs) e

pub In-inserted : (r x : Region) (regions : List Region) → In x (with_region r regions) → (x ≡ r) ⊎ In x regions
In-inserted r x [] (inl e) = inl e
In-inserted r x [] (inr h) = absurd h
In-inserted r x (s ∷ regions) h = go (nat_lt r.start s.start) h (In-inserted r x regions)
  where
    later : (x ≡ r) ⊎ In x regions → (x ≡ r) ⊎ ((x ≡ s) ⊎ In x regions)
    later (inl e) = inl e
    later (inr k) = inr (inr k)

    go : (b : Bool) → In x (cond b (r ∷ s ∷ regions) (s ∷ with_region r regions)) → (In x (with_region r regions) → (x ≡ r) ⊎ In x regions) → (x ≡ r) ⊎ ((x ≡ s) ⊎ In x regions)
    go true k f = k
    go false (inl e) f = inr (inl e)
    go false (inr k) f = later (f k)

-- the two have no byte in common
abbrev pub Disjoint : Region → Region → Type 0
Disjoint r s = (r.start + length r.bytes ≤ s.start) ⊎ (s.start + length s.bytes ≤ r.start)

-- a region that is disjoint from all goes into its place
pub apart_inserted : (r : Region) (regions : List Region) → 0 < length r.bytes → ((s : Region) → In s regions → 0 < length s.bytes) → ((s : Region) → In s regions → Disjoint r s)
    → each_pair ends_before regions ≡ true → each_pair ends_before (with_region r regions) ≡ true
apart_inserted r [] n p d h = refl
apart_inserted r (s ∷ regions) n p d h = go (nat_lt r.start s.start) refl (apart_inserted r regions n (λ t m. p t (inr m)) (λ t m. d t (inr m)) k.1)
  where
    k : (list_all (ends_before s) regions ≡ true) × (each_pair ends_before regions ≡ true)
    k = and_parts (list_all (ends_before s) regions) (each_pair ends_before regions) h

    first : r.start < s.start → Disjoint r s → r.start + length r.bytes ≤ s.start
    first l (inl e) = e
    first l (inr e) = absurd (omega (arith, e, l))

    second : s.start ≤ r.start → Disjoint r s → s.start + length s.bytes ≤ r.start
    second l (inl e) = absurd (omega (arith, e, l, n))
    second l (inr e) = e

    all_later : r.start + length r.bytes ≤ s.start → (t : Region) → In t regions → ends_before r t ≡ true
    all_later l t m = let q : s.start + length s.bytes ≤ t.start = leb-true (s.start + length s.bytes) t.start (all-In (ends_before s) regions k.0 t m) in le-leb (r.start + length r.bytes) t.start (omega (arith, l, q))

    also : (t : Region) → s.start + length s.bytes ≤ r.start → (t ≡ r) ⊎ In t regions → ends_before s t ≡ true
    also t l (inl e) = subst (λ (x : Region). ends_before s x ≡ true) (sym e) (le-leb (s.start + length s.bytes) r.start l)
    also t l (inr m) = all-In (ends_before s) regions k.0 t m

    go : (b : Bool) → nat_lt r.start s.start ≡ b → each_pair ends_before (with_region r regions) ≡ true → each_pair ends_before (cond b (r ∷ s ∷ regions) (s ∷ with_region r regions)) ≡ true
    go true e f =
        let l : r.start + length r.bytes ≤ s.start = first (ltb-true r.start s.start e) (d s (inl refl)) in
        and_from _ _ (and_from (ends_before r s) (list_all (ends_before r) regions) (le-leb (r.start + length r.bytes) s.start l) (In-all (ends_before r) regions (all_later l))) h
    go false e f =
        let l : s.start + length s.bytes ≤ r.start = second (ltb-false r.start s.start e) (d s (inl refl)) in
        and_from _ _ (In-all (ends_before s) (with_region r regions) (λ t m. also t l (In-inserted r t regions m))) f

In-from : (n a q : ℕ) → a ≤ q → q < a + n → In q (from_on a n)
In-from zero a q l m = absurd (omega (arith, l, m))
In-from (suc n) a q l m = go (cases_lt a q) (In-from n (suc a) q)
  where
    go : (a < q) ⊎ (q ≤ a) → (suc a ≤ q → q < suc a + n → In q (from_on (suc a) n)) → (q ≡ a) ⊎ In q (from_on (suc a) n)
    go (inl k) f = inr (f (omega (arith, k)) (omega (arith, m)))
    go (inr k) f = inl (omega (arith, k, l))

not_true : (b : Bool) → not b ≡ true → b ≡ false
not_true true h = absurd (true≢false (sym h))
not_true false h = refl

index_from : (f : ℕ → Bool) (n a q : ℕ) → q < n → slice_index_or (map f (from_on a n)) q true ≡ f (a + q)
index_from f zero a q l = absurd (omega (arith, l))
index_from f (suc n) a zero l = ap f (omega arith)
index_from f (suc n) a (suc q) l = index_from f n (suc a) q (omega (arith, l)) ∙ ap f (omega arith)

pub length-from : (n a : ℕ) → length (from_on a n) ≡ n
length-from zero a = refl
length-from (suc n) a = ap suc (length-from n (suc a))

pub table_length : (w : World) → length (page_table w) ≡ w.pages
table_length w = length-map (upto w.pages) (is_taken w) ∙ length-from w.pages 0

-- what an accepted run is
pub record RunAt (w : World) (n start : ℕ) : Type 0 where
  pub page : ℕ
  pub is : w.base + 4096 * page ≡ start
  pub room : page + n ≤ w.pages
  pub free : is_free_run (page_table w) page n ≡ true

-- a free page is in the table
free_below : (table : List Bool) (q : ℕ) → is_free table q ≡ true → q < length table
free_below table q h = go (cases_lt q (length table))
  where
    go : (q < length table) ⊎ (length table ≤ q) → q < length table
    go (inl l) = l
    go (inr l) = absurd (true≢false (sym (subst (λ b. not b ≡ true) (get_or_past table q true l) h)))

-- the lowest free run is in the table and free
pub record FreeAt (w : World) (n page : ℕ) : Type 0 where
  pub room : page + n ≤ w.pages
  pub free : is_free_run (page_table w) page n ≡ true

pub run_at : (w : World) (n page : ℕ) → 0 < n → lowest_run (page_table w) n ≡ Some page → FreeAt w n page
run_at w n page l h =
    let f : In page (upto (length (page_table w))) × (is_free_run (page_table w) page n ≡ true) = found-In (λ page. is_free_run (page_table w) page n) (upto (length (page_table w))) page h in
    let b : page + n - 1 < length (page_table w) = free_below (page_table w) (page + n - 1) (all-In (is_free (page_table w)) (from_on page n) f.1 (page + n - 1) (In-from n page (page + n - 1) (omega (arith, l)) (omega (arith, l)))) in
    record { room = omega (arith, l, b, table_length w); free = f.1 }

pub run_ok : (w : World) (n start : ℕ) → 0 < n → start_of_run w n ≡ Ok start → RunAt w n start
run_ok w n start l h = go (lowest_run (page_table w) n) refl h
  where
    go : (o : Option ℕ) → lowest_run (page_table w) n ≡ o
        → elim o as (λ _. Outcome ℕ) [ None ↦ Err (Exhausted n (longest_run (page_table w))) | Some page ↦ Ok (w.base + 4096 * page) ] ≡ Ok start → RunAt w n start
    go None e k = cc
    go (Some page) e k = let f : FreeAt w n page = run_at w n page l e in record { page = page; is = ok_same _ start k; room = f.room; free = f.free }

pub taken_at : (w : World) (q : ℕ) → q < w.pages → slice_index_or (page_table w) q true ≡ is_taken w q
taken_at w q l = index_from (is_taken w) w.pages 0 q l ∙ ap (is_taken w) (omega arith)

-- no region covers a page of a free run
page_free : (w : World) (page n : ℕ) → page + n ≤ w.pages → is_free_run (page_table w) page n ≡ true → (q : ℕ) → page ≤ q → q < page + n → is_taken w q ≡ false
page_free w page n room h q a b =
    sym (taken_at w q (omega (arith, room, b)))
    ∙ not_true (slice_index_or (page_table w) q true) (all-In (is_free (page_table w)) (from_on page n) h q (In-from n page q a b))

-- whole pages of the space
abbrev pub Whole : ℕ → Region → Type 0
Whole base s = (base ≤ s.start) × ((s.start - base) % 4096 ≡ 0) × (0 < length s.bytes) × (length s.bytes % 4096 ≡ 0)

-- a region of whole pages has no byte of a free run
pub free_clear : (w : World) (page n : ℕ) → page + n ≤ w.pages → is_free_run (page_table w) page n ≡ true → 0 < n → (s : Region) → In s w.regions → Whole w.base s → IsClear (w.base + 4096 * page) (4096 * n) s
free_clear w page n room free l s k h = go (cases_lt first (page + n)) (cases_lt page (first + count)) (cases_lt page first)
  where
    first : ℕ
    first = (s.start - w.base) / 4096

    count : ℕ
    count = length s.bytes / 4096

    start : s.start ≡ w.base + 4096 * ((s.start - w.base) / 4096)
    start = omega (arith, h.0, h.1)

    size : length s.bytes ≡ 4096 * (length s.bytes / 4096)
    size = omega (arith, h.3)

    clash : (q : ℕ) → page ≤ q → q < page + n → s.start ≤ w.base + 4096 * q → w.base + 4096 * q < s.start + length s.bytes → ⊥
    clash q a b c d =
        true≢false (sym (and_from (nat_le s.start (w.base + 4096 * q)) (nat_lt (w.base + 4096 * q) (s.start + length s.bytes)) (le-leb s.start (w.base + 4096 * q) c) (lt-ltb (w.base + 4096 * q) (s.start + length s.bytes) d))
        ∙ none-In (λ r. covers r (w.base + 4096 * q)) w.regions (page_free w page n room free q a b) s k)

    go : (first < page + n) ⊎ (page + n ≤ first) → (page < first + count) ⊎ (first + count ≤ page) → (page < first) ⊎ (first ≤ page) → IsClear (w.base + 4096 * page) (4096 * n) s
    go (inr a) b c = inl (omega (arith, start, a))
    go (inl a) (inr b) c = inr (omega (arith, start, size, b))
    go (inl a) (inl b) (inl c) = absurd (clash first (omega (arith, c)) a (omega (arith, start)) (omega (arith, start, h.2)))
    go (inl a) (inl b) (inr c) = absurd (clash page (omega arith) (omega (arith, l)) (omega (arith, start, c)) (omega (arith, start, size, b)))

-- the new region is disjoint from those that are there
pub run_disjoint : (w : World) (r : Region) → RunAt w (length r.bytes / 4096) r.start → 0 < length r.bytes → length r.bytes % 4096 ≡ 0
    → (s : Region) → In s w.regions → Whole w.base s → Disjoint r s
run_disjoint w r at l m s k h = go (free_clear w at.page (length r.bytes / 4096) at.room at.free (omega (arith, l, m)) s k h)
  where
    go : IsClear (w.base + 4096 * at.page) (4096 * (length r.bytes / 4096)) s → Disjoint r s
    go (inl e) = inl (omega (arith, at.is, e, m))
    go (inr e) = inr (omega (arith, at.is, e))

-- an image is whole pages, at least one
pub image_pages : (bytes : List ℕ) → (0 < length (to_pages bytes)) × (length (to_pages bytes) % 4096 ≡ 0)
image_pages [] = (omega arith, refl)
image_pages (b ∷ bytes) =
    let e : length (to_pages (b ∷ bytes)) ≡ length (b ∷ bytes) + gap (length (b ∷ bytes)) 4096 = length-append (b ∷ bytes) (replicate (gap (length (b ∷ bytes)) 4096) 0) ∙ ap (λ (n : ℕ). length (b ∷ bytes) + n) (length-replicate (gap (length (b ∷ bytes)) 4096) 0) in
    (omega (arith, e), subst (λ (n : ℕ). n % 4096 ≡ 0) (sym e) (omega arith))

-- regions stand in the space, apart from each other
pub record Spaced (w : World) : Type 0 where
  pub in_space : list_all (is_in_space w) w.regions ≡ true
  pub apart : each_pair ends_before w.regions ≡ true

five_all : (a b c d e : Bool) → (a && b && c && d && e) ≡ true → (a ≡ true) × (b ≡ true) × (c ≡ true) × (d ≡ true) × (e ≡ true)
five_all true true true true e h = (refl, refl, refl, refl, h)
five_all true true true false e h = absurd (true≢false (sym h))
five_all true true false d e h = absurd (true≢false (sym h))
five_all true false c d e h = absurd (true≢false (sym h))
five_all false b c d e h = absurd (true≢false (sym h))

five_from : (a b c d e : Bool) → a ≡ true → b ≡ true → c ≡ true → d ≡ true → e ≡ true → (a && b && c && d && e) ≡ true
five_from a b c d e h i j k l = and_from _ e (and_from _ d (and_from _ c (and_from a b h i) j) k) l

pub whole_region : (w : World) (s : Region) → is_in_space w s ≡ true → Whole w.base s
whole_region w s h =
    let p = five_all (nat_le w.base s.start) ((s.start - w.base) % 4096 == 0) (nat_lt 0 (length s.bytes)) (length s.bytes % 4096 == 0) (nat_le (s.start + length s.bytes) (w.base + 4096 * w.pages)) h in
    (leb-true w.base s.start p.0, eqb-true _ 0 p.1, ltb-true 0 (length s.bytes) p.2, eqb-true _ 0 p.3)

pub run_in_space : (w : World) (r : Region) → RunAt w (length r.bytes / 4096) r.start → 0 < length r.bytes → length r.bytes % 4096 ≡ 0 → is_in_space w r ≡ true
run_in_space w r at l m =
    five_from (nat_le w.base r.start) ((r.start - w.base) % 4096 == 0) (nat_lt 0 (length r.bytes)) (length r.bytes % 4096 == 0) (nat_le (r.start + length r.bytes) (w.base + 4096 * w.pages))
    (le-leb w.base r.start (omega (arith, at.is))) (eq-eqb _ 0 (omega (arith, at.is))) (lt-ltb 0 (length r.bytes) l) (eq-eqb _ 0 m)
    (le-leb (r.start + length r.bytes) (w.base + 4096 * w.pages) (omega (arith, at.is, at.room, m)))

-- one more region, in the lowest free run
pub spaced_more : (w : World) (r : Region) → start_of_run w (length r.bytes / 4096) ≡ Ok r.start → 0 < length r.bytes → length r.bytes % 4096 ≡ 0
    → Spaced w → Spaced (record w { regions = with_region r w.regions })
spaced_more w r h l m s =
    let at : RunAt w (length r.bytes / 4096) r.start = run_ok w (length r.bytes / 4096) r.start (omega (arith, l, m)) h in
    let whole = λ (t : Region) (k : In t w.regions). whole_region w t (all-In (is_in_space w) w.regions s.in_space t k) in
    record {
      in_space = In-all (is_in_space w) (with_region r w.regions) (λ t k. inserted t at (In-inserted r t w.regions k));
      apart = apart_inserted r w.regions l (λ t k. (whole t k).2) (λ t k. run_disjoint w r at l m t k (whole t k)) s.apart;
    }
  where
    inserted : (t : Region) → RunAt w (length r.bytes / 4096) r.start → (t ≡ r) ⊎ In t w.regions → is_in_space w t ≡ true
    inserted t at (inl e) = subst (λ (x : Region). is_in_space w x ≡ true) (sym e) (run_in_space w r at l m)
    inserted t at (inr k) = all-In (is_in_space w) w.regions s.in_space t k

pub shapes_swap : (s t : Shape) (xs : List Shape) → s.start < t.start → with_shape s (with_shape t xs) ≡ with_shape t (with_shape s xs)
shapes_swap s t [] l = subst (λ b. cond b (s ∷ t ∷ []) (t ∷ s ∷ []) ≡ cond (nat_lt t.start s.start) (t ∷ s ∷ []) (s ∷ t ∷ [])) (sym (lt-ltb s.start t.start l)) (subst (λ b. (s ∷ t ∷ []) ≡ cond b (t ∷ s ∷ []) (s ∷ t ∷ [])) (sym (le-ltb t.start s.start (omega (arith, l)))) refl)
shapes_swap s t (u ∷ xs) l = go (nat_lt t.start u.start) refl (nat_lt s.start u.start) refl (shapes_swap s t xs l)
  where
    st : nat_lt s.start t.start ≡ true
    st = lt-ltb s.start t.start l

    ts : nat_lt t.start s.start ≡ false
    ts = le-ltb t.start s.start (omega (arith, l))

    go : (a : Bool) → nat_lt t.start u.start ≡ a → (b : Bool) → nat_lt s.start u.start ≡ b → with_shape s (with_shape t xs) ≡ with_shape t (with_shape s xs)
        → with_shape s (cond a (t ∷ u ∷ xs) (u ∷ with_shape t xs)) ≡ with_shape t (cond b (s ∷ u ∷ xs) (u ∷ with_shape s xs))
    go true e true f ih = grind (arith, st, ts, e, f)
    go false e true f ih = grind (arith, st, ts, e, f)
    go false e false f ih = grind (arith, st, ts, e, f, ih)
    go true e false f ih = absurd (omega (arith, ltb-true t.start u.start e, ltb-false s.start u.start f, l))
