-- Lists in which nothing stands twice, and lists that rise.
use Rattle.std.proofs.Common.{◌≡◌, refl, sym, ◌∙◌, ap, subst, arith, ℕ, suc, ◌+◌, ◌≤◌, ◌<◌, ◌⊎◌, inl, inr, Bool, true, false, cond, not, ◌||◌, List, [], ◌∷◌, map, length, true≢false}
use Rattle.std.specs.Prelude.{◌==◌, nat_lt, All, filter}
use Rattle.std.specs.List.{count_by, list_all}
use Rattle.std.specs.List.Sorted.{IsNonDecreasingBy}
use Rattle.std.proofs.lemmas.Bool.{and_parts, and_from, or_cases, or_left, or_right, eqb-true, eq-eqb, lt-ltb, ltb-true, cases_order}
use Rattle.std.proofs.lemmas.List.Sums.{sum_by-cons}
use Rattle.cell_num.specs.declared.ids.CellId.{CellId}
use Rattle.cell_num.specs.Lists.{each_pair, holds, In}
use Rattle.cell_num.proofs.Elements.{In-all, all-In, All-In, any-In, filter-In, In-map}
use Rattle.cell_num.proofs.Sublists.{length-filter_le}
use Rattle.cell_lemmas.proofs.Holding.KeptPaths.{In-holds, holds-In}
use Rattle.cell_hold.specs.Adds.{IsOnceEach, has_cell}
use Rattle.cell_hold.proofs.Adding.{none_counted}

counted : (xs : List CellId) (c : ℕ) → has_cell xs c ≡ true → 1 ≤ count_by (λ x. x.0 == c) xs
counted [] c h = absurd (true≢false (sym h))
counted (x ∷ xs) c h = go (x.0 == c) refl h (counted xs c)
  where
    go : (b : Bool) → (x.0 == c) ≡ b → (b || has_cell xs c) ≡ true → (has_cell xs c ≡ true → 1 ≤ count_by (λ x. x.0 == c) xs) → 1 ≤ count_by (λ x. x.0 == c) (x ∷ xs)
    go true e k f = let n : ◌≡◌ {A = ℕ} (cond (x.0 == c) 1 0) 1 = ap (λ b. cond b 1 0) e in omega (arith, sum_by-cons (λ (y : CellId). cond (y.0 == c) 1 0) x xs, n)
    go false e k f = let r : 1 ≤ count_by (λ x. x.0 == c) xs = f k in omega (arith, sum_by-cons (λ (y : CellId). cond (y.0 == c) 1 0) x xs, r)

once_tail : (x : CellId) (xs : List CellId) → IsOnceEach (x ∷ xs) → IsOnceEach xs
once_tail x xs o c = omega (arith, o c, sum_by-cons (λ (y : CellId). cond (y.0 == c) 1 0) x xs)

-- the first doesn't stand there again
apart : (x : CellId) (xs : List CellId) → IsOnceEach (x ∷ xs) → (c : ℕ) → has_cell xs c ≡ true → x.0 ≡ c → ⊥
apart x xs o c h e =
    let n : ◌≡◌ {A = ℕ} (cond (x.0 == c) 1 0) 1 = ap (λ b. cond b 1 0) (eq-eqb x.0 c e) in
    omega (arith, o c, sum_by-cons (λ (y : CellId). cond (y.0 == c) 1 0) x xs, n, counted xs c h)

shorter : (n : ℕ) (ys : List ℕ) → holds ys n ≡ true → suc (length (filter (λ y. not (y == n)) ys)) ≤ length ys
shorter n [] h = absurd (true≢false (sym h))
shorter n (y ∷ ys) h = go (y == n) h (shorter n ys)
  where
    go : (b : Bool) → (b || holds ys n) ≡ true → (holds ys n ≡ true → suc (length (filter (λ y. not (y == n)) ys)) ≤ length ys)
        → suc (length (cond (not b) (y ∷ filter (λ y. not (y == n)) ys) (filter (λ y. not (y == n)) ys))) ≤ length (y ∷ ys)
    go true k f = omega (arith, length-filter_le (λ y. not (y == n)) ys)
    go false k f = let r : suc (length (filter (λ y. not (y == n)) ys)) ≤ length ys = f k in omega (arith, r)

-- so many different ones are at most as many as there are
pub at_most : (xs : List CellId) (ys : List ℕ) → IsOnceEach xs → ((c : ℕ) → has_cell xs c ≡ true → holds ys c ≡ true) → length xs ≤ length ys
at_most [] ys o f = omega arith
at_most (x ∷ xs) ys o f =
    let s : suc (length (filter (λ y. not (y == x.0)) ys)) ≤ length ys = shorter x.0 ys (f x.0 (or_left (x.0 == x.0) (has_cell xs x.0) (eq-eqb x.0 x.0 refl))) in
    let r : length xs ≤ length (filter (λ y. not (y == x.0)) ys) = at_most xs (filter (λ y. not (y == x.0)) ys) (once_tail x xs o) others in
    omega (arith, s, r)
  where
    differs : (c : ℕ) → has_cell xs c ≡ true → (b : Bool) → (c == x.0) ≡ b → not b ≡ true
    differs c h true e = absurd (apart x xs o c h (sym (eqb-true c x.0 e)))
    differs c h false e = refl

    others : (c : ℕ) → has_cell xs c ≡ true → holds (filter (λ y. not (y == x.0)) ys) c ≡ true
    others c h =
        In-holds (filter (λ y. not (y == x.0)) ys) c
        (filter-In (λ y. not (y == x.0)) ys c (holds-In ys c (f c (or_right (x.0 == c) (has_cell xs c) h))) (differs c h (c == x.0) refl))

-- where one that is there is missing, they are fewer
pub one_more : (xs : List CellId) (ys : List ℕ) (c : ℕ) → IsOnceEach xs → ((d : ℕ) → has_cell xs d ≡ true → holds ys d ≡ true) → holds ys c ≡ true → has_cell xs c ≡ false → suc (length xs) ≤ length ys
one_more xs ys c o f n none = at_most (record { 0 = c } ∷ xs) ys once all
  where
    counts : (d : ℕ) (b : Bool) → (c == d) ≡ b → cond b 1 0 + count_by (λ x. x.0 == d) xs ≤ 1
    counts d true e = let z : count_by (λ x. x.0 == d) xs ≡ 0 = none_counted xs d (subst (λ k. has_cell xs k ≡ false) (eqb-true c d e) none) in omega (arith, z)
    counts d false e = omega (arith, o d)

    once : IsOnceEach (record { 0 = c } ∷ xs)
    once d = omega (arith, sum_by-cons (λ (y : CellId). cond (y.0 == d) 1 0) (record { 0 = c }) xs, counts d (c == d) refl)

    all : (d : ℕ) → (c == d || has_cell xs d) ≡ true → holds ys d ≡ true
    all d h = go (or_cases (c == d) (has_cell xs d) h)
      where
        go : ((c == d) ≡ true) ⊎ (has_cell xs d ≡ true) → holds ys d ≡ true
        go (inl k) = subst (λ m. holds ys m ≡ true) (eqb-true c d k) n
        go (inr k) = f d k

-- different ones, of which none is above a later one, rise
pub rising : (xs : List CellId) → IsNonDecreasingBy (λ x. x.0) xs → IsOnceEach xs → each_pair nat_lt (map (λ x. x.0) xs) ≡ true
rising [] up o = refl
rising (x ∷ xs) up o =
    and_from (list_all (nat_lt x.0) (map (λ (y : CellId). y.0) xs)) (each_pair nat_lt (map (λ (y : CellId). y.0) xs))
    (In-all (nat_lt x.0) (map (λ (y : CellId). y.0) xs) above)
    (rising xs (λ i j d le lt. up (suc i) (suc j) d (omega (arith, le)) (omega (arith, lt))) (once_tail x xs o))
  where
    least : All (λ y. x.0 ≤ y.0) xs
    least j d lt = up 0 (suc j) d (omega arith) (omega (arith, lt))

    strict : (y : CellId) → In y xs → x.0 ≤ y.0 → (x.0 ≡ y.0) ⊎ ((x.0 < y.0) ⊎ (y.0 < x.0)) → x.0 < y.0
    strict y i le (inl e) = absurd (apart x xs o y.0 (any-In (λ (z : CellId). z.0 == y.0) xs y i (eq-eqb y.0 y.0 refl)) e)
    strict y i le (inr (inl lt)) = lt
    strict y i le (inr (inr lt)) = absurd (omega (arith, le, lt))

    above : (n : ℕ) → In n (map (λ (y : CellId). y.0) xs) → nat_lt x.0 n ≡ true
    above n i =
        let r : (y : CellId) × In y xs × (n ≡ y.0) = In-map (λ (y : CellId). y.0) xs n i in
        subst (λ m. nat_lt x.0 m ≡ true) (sym r.2)
        (lt-ltb x.0 r.0.0 (strict r.0 r.1 (All-In (λ (y : CellId). x.0 ≤ y.0) xs least r.0 r.1) (cases_order x.0 r.0.0)))

below : (x : ℕ) (xs : List ℕ) → each_pair nat_lt (x ∷ xs) ≡ true → (c : ℕ) → In c xs → x < c
below x xs r c i = ltb-true x c (all-In (nat_lt x) xs (and_parts (list_all (nat_lt x) xs) (each_pair nat_lt xs) r).0 c i)

-- rising lists with the same elements are equal
pub same_rising : (xs ys : List ℕ) → each_pair nat_lt xs ≡ true → each_pair nat_lt ys ≡ true → ((c : ℕ) → In c xs → In c ys) → ((c : ℕ) → In c ys → In c xs) → xs ≡ ys
same_rising [] [] r s f g = refl
same_rising [] (y ∷ ys) r s f g = absurd (g y (inl refl))
same_rising (x ∷ xs) [] r s f g = absurd (f x (inl refl))
same_rising (x ∷ xs) (y ∷ ys) r s f g =
    ap (λ z. z ∷ xs) first
    ∙ ap (λ zs. y ∷ zs) (same_rising xs ys (and_parts (list_all (nat_lt x) xs) (each_pair nat_lt xs) r).1 (and_parts (list_all (nat_lt y) ys) (each_pair nat_lt ys) s).1 to from)
  where
    go : (x ≡ y) ⊎ In x ys → (y ≡ x) ⊎ In y xs → x ≡ y
    go (inl e) k = e
    go (inr i) (inl e) = sym e
    go (inr i) (inr j) = absurd (omega (arith, below y ys s x i, below x xs r y j))

    first : x ≡ y
    first = go (f x (inl refl)) (g y (inl refl))

    to : (c : ℕ) → In c xs → In c ys
    to c i = drop_head (f c (inr i))
      where
        drop_head : (c ≡ y) ⊎ In c ys → In c ys
        drop_head (inl e) = absurd (omega (arith, below x xs r c i, e, first))
        drop_head (inr j) = j

    from : (c : ℕ) → In c ys → In c xs
    from c i = drop_head (g c (inr i))
      where
        drop_head : (c ≡ x) ⊎ In c xs → In c xs
        drop_head (inl e) = absurd (omega (arith, below y ys s c i, e, first))
        drop_head (inr j) = j
