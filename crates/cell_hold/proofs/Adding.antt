-- How a list of cells grows, step by step.
use Rattle.std.proofs.Common.{◌≡◌, refl, sym, ◌∙◌, ap, subst, arith, ℕ, ◌+◌, ◌≤◌, ◌<◌, ◌⊎◌, inl, inr, Bool, true, false, cond, ◌||◌, List, [], ◌∷◌, ◌++◌, length, take, get_or, true≢false, append_assoc, append-nil, length-append, take_all}
use Rattle.std.specs.Prelude.{◌==◌, nat_le}
use Rattle.std.specs.List.{list_any, count_by}
use Rattle.std.proofs.lemmas.Bool.{or_cases, or_left, or_right, or_parts, le-leb, leb-true, eqb-true}
use Rattle.std.proofs.lemmas.List.{get_or_default}
use Rattle.std.proofs.lemmas.List.Folds.{list_any-append, list_any_more}
use Rattle.std.proofs.lemmas.List.Sums.{sum_by-cons, sum_by_push}
use Rattle.cell_num.specs.declared.ids.CellId.{CellId}
use Rattle.cell_hold.specs.Adds.{Adds, has_cell, has_or_full, IsOnceEach}

pub has_left : (old more : List CellId) (c : ℕ) → has_cell old c ≡ true → has_cell (old ++ more) c ≡ true
has_left old more c h = list_any-append (λ (x : CellId). x.0 == c) old more ∙ or_left (has_cell old c) (has_cell more c) h

pub full_more : (old more : List CellId) (room c : ℕ) → has_or_full old room c ≡ true → has_or_full (old ++ more) room c ≡ true
full_more old more room c h = go (or_cases (has_cell old c) (nat_le room (length old)) h)
  where
    go : (has_cell old c ≡ true) ⊎ (nat_le room (length old) ≡ true) → has_or_full (old ++ more) room c ≡ true
    go (inl k) = or_left (has_cell (old ++ more) c) (nat_le room (length (old ++ more))) (has_left old more c k)
    go (inr k) =
        or_right (has_cell (old ++ more) c) (nat_le room (length (old ++ more)))
        (le-leb room (length (old ++ more)) (omega (arith, leb-true room (length old) k, length-append old more)))

-- what passes is there already, or there is no room
pub nothing_added : (t : ℕ → Bool) (room : ℕ) (old : List CellId) → ((c : ℕ) → t c ≡ true → has_or_full old room c ≡ true) → Adds t room old old
nothing_added t room old f =
    record { more = []; is = sym (append-nil old); once = λ o. o; only = λ c h. or_left (has_cell old c) (t c) h; has = f }

pub none_added : (t : ℕ → Bool) (room : ℕ) (old : List CellId) → ((c : ℕ) → t c ≡ false) → Adds t room old old
none_added t room old f = nothing_added t room old (λ c h. absurd (true≢false (sym h ∙ f c)))

or_in : (x y z : Bool) → (x || y) ≡ true → (x || (y || z)) ≡ true
or_in true y z h = refl
or_in false y z h = or_left y z h

pub added_then : (t u : ℕ → Bool) (room : ℕ) (old mid new : List CellId) → Adds t room old mid → Adds u room mid new → Adds (λ c. t c || u c) room old new
added_then t u room old mid new a b =
    record {
      more = a.more ++ b.more;
      is = b.is ∙ ap (λ xs. xs ++ b.more) a.is ∙ append_assoc old a.more b.more;
      once = λ o. b.once (a.once o);
      only = λ c h. only_then c (or_cases (has_cell mid c) (u c) (b.only c h));
      has = λ c h. has_then c (or_cases (t c) (u c) h);
    }
  where
    only_then : (c : ℕ) → (has_cell mid c ≡ true) ⊎ (u c ≡ true) → (has_cell old c || (t c || u c)) ≡ true
    only_then c (inl k) = or_in (has_cell old c) (t c) (u c) (a.only c k)
    only_then c (inr k) = or_right (has_cell old c) (t c || u c) (or_right (t c) (u c) k)

    has_then : (c : ℕ) → (t c ≡ true) ⊎ (u c ≡ true) → has_or_full new room c ≡ true
    has_then c (inl k) = subst (λ xs. has_or_full xs room c ≡ true) (sym b.is) (full_more mid b.more room c (a.has c k))
    has_then c (inr k) = b.has c k

pub added_same : (t u : ℕ → Bool) (room : ℕ) (old new : List CellId) → ((c : ℕ) → t c ≡ u c) → Adds t room old new → Adds u room old new
added_same t u room old new e a =
    record {
      more = a.more;
      is = a.is;
      once = a.once;
      only = λ c h. subst (λ v. (has_cell old c || v) ≡ true) (e c) (a.only c h);
      has = λ c h. a.has c (e c ∙ h);
    }

-- in the same room
pub in_room : (t : ℕ → Bool) (now room : ℕ) (old new : List CellId) → now ≡ room → Adds t now old new → Adds t room old new
in_room t now room old new e a = subst (λ r. Adds t r old new) e a

-- a step of a loop over a list
pub added_more : {X : Type 0} (t : X → ℕ → Bool) (xs : List X) (i : ℕ) (x : X) (now room : ℕ) (old mid new : List CellId) → i < length xs → x ≡ get_or xs i x → now ≡ room
    → Adds (λ c. list_any (λ y. t y c) (take i xs)) room old mid → Adds (t x) now mid new → Adds (λ c. list_any (λ y. t y c) (take (i + 1) xs)) room old new
added_more t xs i x now room old mid new lt is e a b =
    added_same (λ c. list_any (λ y. t y c) (take i xs) || t x c) (λ c. list_any (λ y. t y c) (take (i + 1) xs)) room old new same
    (added_then (λ c. list_any (λ y. t y c) (take i xs)) (t x) room old mid new a (in_room (t x) now room mid new e b))
  where
    same : (c : ℕ) → (list_any (λ y. t y c) (take i xs) || t x c) ≡ list_any (λ y. t y c) (take (i + 1) xs)
    same c = ap (λ y. list_any (λ y. t y c) (take i xs) || t y c) is ∙ sym (list_any_more (λ y. t y c) xs i x lt)

-- the same where the element is read by a default
pub added_next : {X : Type 0} (t : X → ℕ → Bool) (xs : List X) (i : ℕ) (d : X) (now room : ℕ) (old mid new : List CellId) → i < length xs → now ≡ room
    → Adds (λ c. list_any (λ y. t y c) (take i xs)) room old mid → Adds (t (get_or xs i d)) now mid new → Adds (λ c. list_any (λ y. t y c) (take (i + 1) xs)) room old new
added_next t xs i d now room old mid new lt e a b = added_more t xs i (get_or xs i d) now room old mid new lt (get_or_default xs i d (get_or xs i d) lt) e a b

pub none_counted : (cells : List CellId) (c : ℕ) → has_cell cells c ≡ false → count_by (λ x. x.0 == c) cells ≡ 0
none_counted [] c h = refl
none_counted (x ∷ xs) c h =
    let p : ((x.0 == c) ≡ false) × (has_cell xs c ≡ false) = or_parts (x.0 == c) (has_cell xs c) h in
    let e : ◌≡◌ {A = ℕ} (cond (x.0 == c) 1 0) 0 = ap (λ b. cond b 1 0) p.0 in
    let r : count_by (λ x. x.0 == c) xs ≡ 0 = none_counted xs c p.1 in
    sum_by-cons (λ (y : CellId). cond (y.0 == c) 1 0) x xs ∙ omega (arith, e, r)

-- a cell that isn't there comes to the end
pub cell_added : (cell : CellId) (room : ℕ) (old : List CellId) → has_cell old cell.0 ≡ false → Adds (λ c. cell.0 == c) room old (old ++ cell ∷ [])
cell_added cell room old new =
    record {
      more = cell ∷ [];
      is = refl;
      once = λ o c. once_more o c (cell.0 == c) refl;
      only = λ c h. only_more c (or_cases (has_cell old c) (has_cell (cell ∷ []) c) (sym (list_any-append (λ (x : CellId). x.0 == c) old (cell ∷ [])) ∙ h));
      has = λ c h. or_left (has_cell (old ++ cell ∷ []) c) (nat_le room (length (old ++ cell ∷ []))) (there c h);
    }
  where
    once_more : IsOnceEach old → (c : ℕ) (b : Bool) → (cell.0 == c) ≡ b → count_by (λ x. x.0 == c) (old ++ cell ∷ []) ≤ 1
    once_more o c true e =
        let n : ◌≡◌ {A = ℕ} (cond (cell.0 == c) 1 0) 1 = ap (λ b. cond b 1 0) e in
        let same : cell.0 ≡ c = eqb-true cell.0 c e in
        let none : count_by (λ x. x.0 == c) old ≡ 0 = none_counted old c (subst (λ k. has_cell old k ≡ false) same new) in
        omega (arith, sum_by_push (λ (x : CellId). cond (x.0 == c) 1 0) old cell, n, none)
    once_more o c false e =
        let n : ◌≡◌ {A = ℕ} (cond (cell.0 == c) 1 0) 0 = ap (λ b. cond b 1 0) e in
        omega (arith, sum_by_push (λ (x : CellId). cond (x.0 == c) 1 0) old cell, n, o c)

    only_more : (c : ℕ) → (has_cell old c ≡ true) ⊎ (((cell.0 == c) || false) ≡ true) → (has_cell old c || (cell.0 == c)) ≡ true
    only_more c (inl k) = or_left (has_cell old c) (cell.0 == c) k
    only_more c (inr k) = or_right (has_cell old c) (cell.0 == c) (or_false (cell.0 == c) k)
      where
        or_false : (b : Bool) → (b || false) ≡ true → b ≡ true
        or_false true h = refl
        or_false false h = h

    there : (c : ℕ) → (cell.0 == c) ≡ true → has_cell (old ++ cell ∷ []) c ≡ true
    there c h =
        list_any-append (λ (x : CellId). x.0 == c) old (cell ∷ [])
        ∙ or_right (has_cell old c) ((cell.0 == c) || false) (or_left (cell.0 == c) false h)

-- a cell that is there stays so
pub added_there : (cell : CellId) (room : ℕ) (old : List CellId) → has_cell old cell.0 ≡ true → Adds (λ c. cell.0 == c) room old old
added_there cell room old h =
    nothing_added (λ c. cell.0 == c) room old (λ c e. or_left (has_cell old c) (nat_le room (length old)) (subst (λ k. has_cell old k ≡ true) (eqb-true cell.0 c e) h))

-- a full list takes no further cell
pub added_full : (cell : CellId) (room : ℕ) (old : List CellId) → room ≤ length old → Adds (λ c. cell.0 == c) room old old
added_full cell room old le = nothing_added (λ c. cell.0 == c) room old (λ c e. or_right (has_cell old c) (nat_le room (length old)) (le-leb room (length old) le))

-- at the end of a loop over a list
pub added_all : {X : Type 0} (t : X → ℕ → Bool) (xs : List X) (i room : ℕ) (old new : List CellId) → length xs ≤ i → Adds (λ c. list_any (λ y. t y c) (take i xs)) room old new → Adds (λ c. list_any (λ y. t y c) xs) room old new
added_all t xs i room old new le a = subst (λ ys. Adds (λ c. list_any (λ y. t y c) ys) room old new) (take_all i xs le) a
