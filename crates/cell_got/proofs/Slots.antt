-- The slots: each symbol of a GOT_HI20 entry has one, and no symbol has two.
use Rattle.std.proofs.Common.{◌≡◌, refl, sym, ◌∙◌, ap, subst, arith, eqb, ℕ, suc, ◌+◌, ◌<◌, ◌≤◌, ◌⊎◌, inl, inr, Bool, true, false, cond, not, ◌||◌, List, [], ◌∷◌, length, true≢false, Some}
use Rattle.std.specs.Prelude.{filter, fold, max, slice_get, ◌==◌}
use Rattle.std.specs.List.{AllByRecursion, IsDistinct, list_any}
use Rattle.std.proofs.lemmas.Bool.{eqb-true, eq-eqb}
use Rattle.std.proofs.lemmas.Map.Steps.{length-le_from_distinct_below}
use Rattle.cell_num.specs.Lists.{holds, In}
use Rattle.cell_num.proofs.Elements.{any-Has, any-In, In-map, map-In, filter-In, In-filtered, filter-Passes}
use Rattle.cell_object.specs.declared.object.Object.{Object}
use Rattle.cell_object.specs.declared.object.Section.{Section}
use Rattle.cell_object.specs.declared.object.Entry.{Entry}
use Rattle.cell_object.specs.Readable.{is_got}
use Rattle.cell_got.specs.Lower.{once_after, slots_of, slot_of, got_number}

pub holds_In : (xs : List ℕ) (x : ℕ) → In x xs → holds xs x ≡ true
holds_In xs x i = any-In (λ y. y == x) xs x i (eq-eqb x x refl)

pub In-holds : (xs : List ℕ) (x : ℕ) → holds xs x ≡ true → In x xs
In-holds xs x h = let k = any-Has (λ y. y == x) xs h in subst (λ z. In z xs) (eqb-true k.0 x k.2) k.1

or_none : (a b : Bool) → (a || b) ≡ false → (a ≡ false) × (b ≡ false)
or_none true b e = absurd (true≢false e)
or_none false b e = (refl, e)

pub once-In : (before xs : List ℕ) (x : ℕ) → In x (once_after before xs) → In x xs × (holds before x ≡ false)
once-In before [] x i = absurd i
once-In before (y ∷ ys) x i = go (holds before y) refl i (once-In before ys x) (once-In (y ∷ before) ys x)
  where
    go : (b : Bool) → holds before y ≡ b → In x (elim b as (λ _. List ℕ) [ true ↦ once_after before ys | false ↦ y ∷ once_after (y ∷ before) ys ])
        → (In x (once_after before ys) → In x ys × (holds before x ≡ false)) → (In x (once_after (y ∷ before) ys) → In x ys × (holds (y ∷ before) x ≡ false)) → In x (y ∷ ys) × (holds before x ≡ false)
    go true e k f g = (inr (f k).0, (f k).1)
    go false e (inl same) f g = (inl same, subst (λ z. holds before z ≡ false) (sym same) e)
    go false e (inr k) f g = (inr (g k).0, (or_none (y == x) (holds before x) (g k).1).1)

pub In-once : (before xs : List ℕ) (x : ℕ) → In x xs → holds before x ≡ false → In x (once_after before xs)
In-once before [] x i h = absurd i
In-once before (y ∷ ys) x i h = go (holds before y) refl i (In-once before ys x) (In-once (y ∷ before) ys x)
  where
    other : (b : Bool) → (y == x) ≡ b → (In x ys → holds (y ∷ before) x ≡ false → In x (once_after (y ∷ before) ys)) → In x ys → (x ≡ y) ⊎ In x (once_after (y ∷ before) ys)
    other true e g k = inl (sym (eqb-true y x e))
    other false e g k = inr (g k (rw (e, h) refl))

    go : (b : Bool) → holds before y ≡ b → In x (y ∷ ys)
        → (In x ys → holds before x ≡ false → In x (once_after before ys)) → (In x ys → holds (y ∷ before) x ≡ false → In x (once_after (y ∷ before) ys))
        → In x (elim b as (λ _. List ℕ) [ true ↦ once_after before ys | false ↦ y ∷ once_after (y ∷ before) ys ])
    go true e (inl same) f g = absurd (true≢false (sym (subst (λ z. holds before z ≡ true) (sym same) e) ∙ h))
    go true e (inr k) f g = f k h
    go false e (inl same) f g = inl same
    go false e (inr k) f g = other (y == x) refl g k

-- no symbol has two slots
pub once_apart : (before xs : List ℕ) → IsDistinct eqb (once_after before xs)
unfolding IsDistinct
once_apart before [] = tt
once_apart before (y ∷ ys) = go (holds before y) (once_apart before ys) (once_apart (y ∷ before) ys)
  where
    others : (zs : List ℕ) → ((z : ℕ) → In z zs → holds (y ∷ before) z ≡ false) → AllByRecursion (λ z. eqb y z ≡ false) zs
    others [] f = tt
    others (z ∷ zs) f = ((or_none (y == z) (holds before z) (f z (inl refl))).0, others zs (λ u k. f u (inr k)))

    go : (b : Bool) → IsDistinct eqb (once_after before ys) → IsDistinct eqb (once_after (y ∷ before) ys)
        → IsDistinct eqb (elim b as (λ _. List ℕ) [ true ↦ once_after before ys | false ↦ y ∷ once_after (y ∷ before) ys ])
    go true f g = f
    go false f g = (others (once_after (y ∷ before) ys) (λ z k. (once-In (y ∷ before) ys z k).1), g)

-- each symbol that asks for a slot has one, and each slot's symbol asks for it
pub slot_there : (o : Object) (e : Entry) → In e o.entries → is_got e ≡ true → In e.symbol (slots_of o)
slot_there o e i g = In-once [] _ e.symbol (map-In (λ (d : Entry). d.symbol) (filter is_got o.entries) e (filter-In is_got o.entries e i g)) refl

pub slot_asked : (o : Object) (x : ℕ) → In x (slots_of o) → (e : Entry) × In e o.entries × (is_got e ≡ true) × (e.symbol ≡ x)
slot_asked o x i =
    let k = In-map (λ (d : Entry). d.symbol) (filter is_got o.entries) x (once-In [] _ x i).0 in
    (k.0, In-filtered is_got o.entries k.0 k.1, filter-Passes is_got o.entries k.0 k.1, sym k.2)

-- so many numbers below a bound have no more slots than that
pub few_slots : (o : Object) (n : ℕ) → ((e : Entry) → In e o.entries → is_got e ≡ true → e.symbol < n) → length (slots_of o) ≤ n
few_slots o n below = length-le_from_distinct_below (slots_of o) n (once_apart [] _) each
  where
    each : (q : ℕ) → list_any (eqb q) (slots_of o) ≡ true → q < n
    each q h =
        let k = any-Has (eqb q) (slots_of o) h in
        let a = slot_asked o k.0 k.1 in
        subst (λ z. z < n) (a.3 ∙ sym (eqb-true q k.0 k.2)) (below a.0 a.1 a.2)

-- the slot of a symbol that has one
pub slot_below : (slots : List ℕ) (x : ℕ) → In x slots → slot_of slots x < length slots
slot_below [] x i = absurd i
slot_below (y ∷ ys) x i = go (y == x) refl i (slot_below ys x)
  where
    go : (b : Bool) → (y == x) ≡ b → In x (y ∷ ys) → (In x ys → slot_of ys x < length ys) → cond (not b) (1 + slot_of ys x) 0 < suc (length ys)
    go true e k f = omega arith
    go false e (inl same) f = absurd (true≢false (sym (eq-eqb y x (sym same)) ∙ e))
    go false e (inr k) f = let h = f k in omega (arith, h)

-- and it is that symbol's
pub slot_is : (slots : List ℕ) (x : ℕ) → In x slots → slice_get slots (slot_of slots x) ≡ Some x
slot_is [] x i = absurd i
slot_is (y ∷ ys) x i = go (y == x) refl i (slot_is ys x)
  where
    go : (b : Bool) → (y == x) ≡ b → In x (y ∷ ys) → (In x ys → slice_get ys (slot_of ys x) ≡ Some x) → slice_get (y ∷ ys) (cond (not b) (1 + slot_of ys x) 0) ≡ Some x
    go true e k f = ap Some (eqb-true y x e)
    go false e (inl same) f = absurd (true≢false (sym (eq-eqb y x (sym same)) ∙ e))
    go false e (inr k) f = let n : 1 + slot_of ys x ≡ suc (slot_of ys x) = omega arith in ap (slice_get (y ∷ ys)) n ∙ f k

-- the number of each section is below that of the section of slots
rises : (xs : List Section) (most : ℕ) → most ≤ fold (λ (m : ℕ) (s : Section). max m s.number) most xs
rises [] most = omega arith
rises (s ∷ xs) most = let h = rises xs (max most s.number) in omega (arith, h)

below_most : (xs : List Section) (most : ℕ) (s : Section) → In s xs → s.number ≤ fold (λ (m : ℕ) (t : Section). max m t.number) most xs
below_most [] most s i = absurd i
below_most (t ∷ xs) most s (inl e) = let h = rises xs (max most t.number) in let k : s.number ≡ t.number = ap (λ (z : Section). z.number) e in omega (arith, h, k)
below_most (t ∷ xs) most s (inr k) = below_most xs (max most t.number) s k

pub below_got : (o : Object) (s : Section) → In s o.sections → s.number < got_number o
below_got o s i = let h = below_most o.sections 0 s i in omega (arith, h)
