-- The slots of entries, with one entry more.
use Rattle.std.proofs.Common.{◌≡◌, refl, sym, ◌∙◌, ap, arith, ℕ, suc, ◌+◌, ◌≤◌, ◌<◌, Bool, true, false, cond, not, ◌||◌, List, [], ◌∷◌, ◌++◌, map, length, take, get_or, subst, true≢false, Option, Some, length-append, append-nil}
use Rattle.std.specs.Prelude.{filter, ◌==◌, unwrap_or, is_some}
use Rattle.std.specs.List.{list_any}
use Rattle.std.specs.Ordering.{nat_cmp}
use Rattle.std.specs.BTreeMap.{is_at}
use Rattle.std.proofs.lemmas.Bool.{eqb-true, eq-eqb}
use Rattle.std.proofs.lemmas.Bool.Decides.{nat_tests}
use Rattle.std.proofs.lemmas.List.{map-append, take_more}
use Rattle.std.proofs.lemmas.List.Folds.{list_any-append}
use Rattle.cell_num.specs.Lists.{holds, where_true, In}
use Rattle.cell_num.proofs.Elements.{any-Has}
use Rattle.cell_object.specs.declared.object.Entry.{Entry}
use Rattle.cell_object.specs.declared.object.Object.{Object}
use Rattle.cell_object.specs.Readable.{is_got}
use Rattle.cell_got.specs.Lower.{asked, got_number, lower, lower_by, once_after, slot_of, slots_of, with_slots}
use Rattle.cell_got.specs.Asked.{with_entry, with_slot}
use Rattle.cell_got.proofs.Slots.{slot_there}

or_moved : (a b c : Bool) → ((a || b) || c) ≡ (b || (a || c))
or_moved true true c = refl
or_moved true false c = refl
or_moved false b c = refl

-- one symbol more
once_more : (before xs : List ℕ) (x : ℕ) → once_after before (xs ++ x ∷ []) ≡ once_after before xs ++ cond (holds before x || holds (once_after before xs) x) [] (x ∷ [])
once_more before [] x = go (holds before x)
  where
    go : (b : Bool) → elim b as (λ _. List ℕ) [ true ↦ [] | false ↦ x ∷ [] ] ≡ cond (b || false) [] (x ∷ [])
    go true = refl
    go false = refl
once_more before (y ∷ ys) x = go (holds before y) (once_more before ys x) (once_more (y ∷ before) ys x)
  where
    go : (b : Bool)
        → once_after before (ys ++ x ∷ []) ≡ once_after before ys ++ cond (holds before x || holds (once_after before ys) x) [] (x ∷ [])
        → once_after (y ∷ before) (ys ++ x ∷ []) ≡ once_after (y ∷ before) ys ++ cond (holds (y ∷ before) x || holds (once_after (y ∷ before) ys) x) [] (x ∷ [])
        → elim b as (λ _. List ℕ) [ true ↦ once_after before (ys ++ x ∷ []) | false ↦ y ∷ once_after (y ∷ before) (ys ++ x ∷ []) ]
        ≡ elim b as (λ _. List ℕ) [ true ↦ once_after before ys | false ↦ y ∷ once_after (y ∷ before) ys ]
        ++ cond (holds before x || holds (elim b as (λ _. List ℕ) [ true ↦ once_after before ys | false ↦ y ∷ once_after (y ∷ before) ys ]) x) [] (x ∷ [])
    go true e f = e
    go false e f =
        ap (λ (zs : List ℕ). y ∷ zs) f
        ∙ ap (λ (b : Bool). y ∷ (once_after (y ∷ before) ys ++ cond b [] (x ∷ []))) (or_moved (y == x) (holds before x) (holds (once_after (y ∷ before) ys) x))

placed : (b : Bool) (slots : List ℕ) (x : ℕ) → slots ++ cond b [] (x ∷ []) ≡ cond b slots (slots ++ x ∷ [])
placed true slots x = append-nil slots
placed false slots x = refl

filter_append : (xs ys : List Entry) → filter is_got (xs ++ ys) ≡ filter is_got xs ++ filter is_got ys
filter_append [] ys = refl
filter_append (x ∷ xs) ys = go (is_got x) (filter_append xs ys)
  where
    go : (b : Bool) → filter is_got (xs ++ ys) ≡ filter is_got xs ++ filter is_got ys
        → cond b (x ∷ filter is_got (xs ++ ys)) (filter is_got (xs ++ ys)) ≡ cond b (x ∷ filter is_got xs) (filter is_got xs) ++ filter is_got ys
    go true e = ap (λ (zs : List Entry). x ∷ zs) e
    go false e = e

-- one entry more
pub asked_more : (es : List Entry) (e : Entry) → asked (es ++ e ∷ []) ≡ with_entry (asked es) e
asked_more es e =
    ap (λ (xs : List Entry). once_after [] (map (λ (d : Entry). d.symbol) xs)) (filter_append es (e ∷ []))
    ∙ ap (once_after []) (map-append (λ (d : Entry). d.symbol) (filter is_got es) (filter is_got (e ∷ [])))
    ∙ go (is_got e)
  where
    go : (b : Bool) → once_after [] (map (λ (d : Entry). d.symbol) (filter is_got es) ++ map (λ (d : Entry). d.symbol) (cond b (e ∷ []) [])) ≡ cond b (with_slot (asked es) e.symbol) (asked es)
    go true = once_more [] (map (λ (d : Entry). d.symbol) (filter is_got es)) e.symbol ∙ placed (holds (asked es) e.symbol) (asked es) e.symbol
    go false = ap (once_after []) (append-nil (map (λ (d : Entry). d.symbol) (filter is_got es)))

-- there are at most as many slots as entries
pub slots_most : (slots : List ℕ) (e : Entry) (i : ℕ) → length slots ≤ i → length (with_entry slots e) ≤ i + 1
slots_most slots e i h = go (is_got e) (holds slots e.symbol)
  where
    go : (a b : Bool) → length (cond a (cond b slots (slots ++ e.symbol ∷ [])) slots) ≤ i + 1
    go true true = omega (arith, h)
    go true false = let n = length-append slots (e.symbol ∷ []) in omega (arith, h, n)
    go false b = omega (arith, h)

-- a symbol without a slot is at the end
pub slot_absent : (slots : List ℕ) (x : ℕ) → holds slots x ≡ false → slot_of slots x ≡ length slots
slot_absent [] x h = refl
slot_absent (y ∷ ys) x h = go (y == x) h (slot_absent ys x)
  where
    go : (b : Bool) → (b || holds ys x) ≡ false → (holds ys x ≡ false → slot_of ys x ≡ length ys) → cond (not b) (1 + slot_of ys x) 0 ≡ suc (length ys)
    go true h f = absurd (true≢false h)
    go false h f = let k = f h in omega (arith, k)

pub slot_most : (slots : List ℕ) (x : ℕ) → slot_of slots x ≤ length slots
slot_most [] x = omega arith
slot_most (y ∷ ys) x = go (y == x) (slot_most ys x)
  where
    go : (b : Bool) → slot_of ys x ≤ length ys → cond (not b) (1 + slot_of ys x) 0 ≤ suc (length ys)
    go true h = omega arith
    go false h = omega (arith, h)

-- what is looked up is the slot, or how many there are
pub slot_found : (slots : List ℕ) (x : ℕ) (found : Option ℕ) → found ≡ where_true (holds slots x) (slot_of slots x) → unwrap_or found (length slots) ≡ slot_of slots x
slot_found slots x found e = ap (λ (o : Option ℕ). unwrap_or o (length slots)) e ∙ go (holds slots x) refl
  where
    go : (b : Bool) → holds slots x ≡ b → unwrap_or (where_true b (slot_of slots x)) (length slots) ≡ slot_of slots x
    go true h = refl
    go false h = sym (slot_absent slots x h)

-- the slots of the others stay
slot_stays : (slots : List ℕ) (x q : ℕ) → holds slots q ≡ true → slot_of (slots ++ x ∷ []) q ≡ slot_of slots q
slot_stays [] x q h = absurd (true≢false (sym h))
slot_stays (y ∷ ys) x q h = go (y == q) h (slot_stays ys x q)
  where
    go : (b : Bool) → (b || holds ys q) ≡ true → (holds ys q ≡ true → slot_of (ys ++ x ∷ []) q ≡ slot_of ys q) → cond (not b) (1 + slot_of (ys ++ x ∷ []) q) 0 ≡ cond (not b) (1 + slot_of ys q) 0
    go true h f = refl
    go false h f = ap (λ (n : ℕ). 1 + n) (f h)

slot_last : (slots : List ℕ) (x : ℕ) → holds slots x ≡ false → slot_of (slots ++ x ∷ []) x ≡ length slots
slot_last [] x h = ap (λ (b : Bool). cond (not b) 1 0) (eq-eqb x x refl)
slot_last (y ∷ ys) x h = go (y == x) h (slot_last ys x)
  where
    go : (b : Bool) → (b || holds ys x) ≡ false → (holds ys x ≡ false → slot_of (ys ++ x ∷ []) x ≡ length ys) → cond (not b) (1 + slot_of (ys ++ x ∷ []) x) 0 ≡ suc (length ys)
    go true h f = absurd (true≢false h)
    go false h f = let k = f h in omega (arith, k)

holds_more : (slots : List ℕ) (x q : ℕ) → holds (slots ++ x ∷ []) q ≡ (holds slots q || (x == q || false))
holds_more slots x q = list_any-append (λ y. y == q) slots (x ∷ [])

at_same : (x q : ℕ) → is_at (nat_cmp x) q ≡ (x == q)
at_same x q = grind (arith, nat_tests)

-- the places, with one slot more
pub slots_more : (slots : List ℕ) (x n : ℕ) (old new : ℕ → Option ℕ) → n ≡ length slots → holds slots x ≡ false
    → ((q : ℕ) → old q ≡ where_true (holds slots q) (slot_of slots q)) → ((q : ℕ) → new q ≡ cond (is_at (nat_cmp x) q) (Some n) (old q))
    → (q : ℕ) → new q ≡ where_true (holds (slots ++ x ∷ []) q) (slot_of (slots ++ x ∷ []) q)
slots_more slots x n old new count absent so_far more q =
    more q
    ∙ (ap (λ (m : ℕ). cond (is_at (nat_cmp x) q) (Some m) (old q)) count
    ∙ (ap (λ (b : Bool). cond b (Some (length slots)) (old q)) (at_same x q)
    ∙ (ap (λ (o : Option ℕ). cond (x == q) (Some (length slots)) o) (so_far q)
    ∙ (go (x == q) (holds slots q) refl refl
    ∙ ap (λ (b : Bool). where_true b (slot_of (slots ++ x ∷ []) q)) (sym (holds_more slots x q))))))
  where
    last : (x == q) ≡ true → slot_of (slots ++ x ∷ []) q ≡ length slots
    last e = let same : x ≡ q = eqb-true x q e in ap (slot_of (slots ++ x ∷ [])) (sym same) ∙ slot_last slots x absent

    go : (b c : Bool) → (x == q) ≡ b → holds slots q ≡ c → cond b (Some (length slots)) (where_true c (slot_of slots q)) ≡ where_true (c || (b || false)) (slot_of (slots ++ x ∷ []) q)
    go true true e f = ap Some (sym (last e))
    go true false e f = ap Some (sym (last e))
    go false true e f = ap Some (sym (slot_stays slots x q f))
    go false false e f = refl

-- where no entry asks, nothing is lowered
no_entries : (es : List Entry) → list_any is_got es ≡ false → filter is_got es ≡ []
no_entries [] h = refl
no_entries (e ∷ es) h = go (is_got e) h (no_entries es)
  where
    go : (b : Bool) → (b || list_any is_got es) ≡ false → (list_any is_got es ≡ false → filter is_got es ≡ []) → cond b (e ∷ filter is_got es) (filter is_got es) ≡ []
    go true h f = absurd (true≢false h)
    go false h f = f h

pub none_lowered : (o : Object) → list_any is_got o.entries ≡ false → lower o ≡ o
none_lowered o h = ap (λ (es : List Entry). lower_by (once_after [] (map (λ (e : Entry). e.symbol) es)) o) (no_entries o.entries h)

pub some_lowered : (o : Object) → list_any is_got o.entries ≡ true → lower o ≡ with_slots (got_number o) (slots_of o) o
some_lowered o h =
    let has = any-Has is_got o.entries h in
    go (slots_of o) has.0.symbol (slot_there o has.0 has.1 has.2)
  where
    go : (slots : List ℕ) (x : ℕ) → In x slots → lower_by slots o ≡ with_slots (got_number o) slots o
    go [] x i = absurd i
    go (y ∷ slots) x i = refl

-- the slots of one entry more of a list
module _ (es : List Entry) (i : ℕ) (d : Entry) (old new : List ℕ) (more : new ≡ with_entry old (get_or es i d)) where
  pub slots_on : i < length es → old ≡ asked (take i es) → new ≡ asked (take (i + 1) es)
  slots_on lt far =
      more
      ∙ ap (λ (slots : List ℕ). with_entry slots (get_or es i d)) far
      ∙ sym (ap asked (take_more es i d lt) ∙ asked_more (take i es) (get_or es i d))

  pub few_on : length old ≤ i → length new ≤ i + 1
  few_on h = subst (λ (slots : List ℕ). length slots ≤ i + 1) (sym more) (slots_most old (get_or es i d) i h)

shown : (b : Bool) (v : ℕ) → is_some (where_true b v) ≡ b
shown true v = refl
shown false v = refl

-- what is found for a symbol says whether it has a slot
pub some_held : (slots : List ℕ) (x : ℕ) (found : Option ℕ) (b : Bool) → found ≡ where_true (holds slots x) (slot_of slots x) → is_some found ≡ b → holds slots x ≡ b
some_held slots x found b e h = sym (shown (holds slots x) (slot_of slots x)) ∙ ap is_some (sym e) ∙ h

pub slot_kept : (slots : List ℕ) (x : ℕ) → holds slots x ≡ true → slots ≡ with_slot slots x
slot_kept slots x h = sym (ap (λ (b : Bool). cond b slots (slots ++ x ∷ [])) h)

pub slot_put : (slots new : List ℕ) (x : ℕ) → holds slots x ≡ false → new ≡ slots ++ x ∷ [] → new ≡ with_slot slots x
slot_put slots new x h e = e ∙ sym (ap (λ (b : Bool). cond b slots (slots ++ x ∷ [])) h)
