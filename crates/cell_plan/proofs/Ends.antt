-- The greatest addresses of low entries, entry by entry.
use Rattle.std.proofs.Common.{◌≡◌, ℕ, ◌+◌, ◌<◌, ◌&&◌, Bool, true, false, cond, Option, Some, None, List, [], ◌∷◌, ◌++◌, length, get_or, take, refl, sym, ap, ◌∙◌, arith, inl, inr}
use Rattle.std.specs.Prelude.{◌==◌, max, filter, fold, map, option_map, unwrap_or}
use Rattle.std.specs.Ordering.{is_eq}
use Rattle.std.proofs.lemmas.Bool.{cases_Bool, eqb-true, or_parts}
use Rattle.std.proofs.lemmas.List.Sums.{fold-append}
use Rattle.std.proofs.lemmas.List.Elements.{filter_more, filter_agree}
use Rattle.std.specs.List.{list_any}
use Rattle.cell_num.specs.Kinds.{is_pcrel_lo12}
use Rattle.cell_num.proofs.Elements.{none-In, filter_none}
use Rattle.cell_object.specs.declared.object.Object.{Object}
use Rattle.cell_object.specs.declared.object.Entry.{Entry}
use Rattle.cell_world.specs.declared.state.NewCell.{NewCell}
use Rattle.cell_world.specs.Linked.Field.{place_of}
use Rattle.cell_world.specs.Torn.{is_low, partner_of, goes_with, last_low}
use Rattle.cell_link.specs.Applied.{spot_of}
use Rattle.cell_link.specs.Tables.{spot_cmp}
use Rattle.cell_plan.proofs.Lists.{map_append}
use Rattle.cell_plan.specs.Lasts.{may_go, goes_to, end_of}

goes_nowhere : (object : Object) (e : Entry) (q : ℕ × ℕ) → option_map spot_of (partner_of object e) ≡ None → goes_to object q e ≡ false
goes_nowhere object e q none = go (partner_of object e) none
  where
    go : (o : Option Entry) → option_map spot_of o ≡ None → (elim o [ None ↦ false | Some h ↦ h.section == q.0 && h.offset == q.1 ]) ≡ false
    go None none = refl
    go (Some h) none = absurd cc

goes_there : (object : Object) (e : Entry) (k q : ℕ × ℕ) → option_map spot_of (partner_of object e) ≡ Some k → goes_to object q e ≡ (k.0 == q.0 && k.1 == q.1)
goes_there object e k q is = go (partner_of object e) is
  where
    spot_is : (h : Entry) → Some (spot_of h) ≡ Some k → spot_of h ≡ k
    spot_is h e = cc

    go : (o : Option Entry) → option_map spot_of o ≡ Some k → (elim o [ None ↦ false | Some h ↦ h.section == q.0 && h.offset == q.1 ]) ≡ (k.0 == q.0 && k.1 == q.1)
    go None is = absurd cc
    go (Some h) is = ap (λ (p : ℕ × ℕ). p.0 == q.0 && p.1 == q.1) (spot_is h is)

same_spot : (k q : ℕ × ℕ) → is_eq (spot_cmp k q) ≡ (k.0 == q.0 && k.1 == q.1)
same_spot k q = grind arith

spot_is : (k q : ℕ × ℕ) → (k.0 == q.0 && k.1 == q.1) ≡ true → q ≡ k
spot_is (a, b) (c, d) h = both (eqb-true a c (left_of (a == c) (b == d) h)) (eqb-true b d (right_of (a == c) (b == d) h))
  where
    left_of : (a b : Bool) → (a && b) ≡ true → a ≡ true
    left_of true b h = refl
    left_of false b h = absurd cc

    right_of : (a b : Bool) → (a && b) ≡ true → b ≡ true
    right_of true b h = h
    right_of false b h = absurd cc

    both : {a b c d : ℕ} → a ≡ c → b ≡ d → ◌≡◌ {A = ℕ × ℕ} (c, d) (a, b)
    both e f = rw (e, f) refl

-- an entry that goes with the high one at k
pub taken_in : (c : NewCell) (e : Entry) (k : ℕ × ℕ) (end : ℕ) (f g : ℕ × ℕ → Option ℕ)
    → option_map spot_of (partner_of c.object e) ≡ Some k → end ≡ max (unwrap_or (f k) 0) (place_of c e)
    → ((q : ℕ × ℕ) → g q ≡ cond (is_eq (spot_cmp k q)) (Some end) (f q))
    → (q : ℕ × ℕ) → unwrap_or (g q) 0 ≡ cond (goes_to c.object q e) (max (unwrap_or (f q) 0) (place_of c e)) (unwrap_or (f q) 0)
taken_in c e k end f g is last are q = elim (cases_Bool (k.0 == q.0 && k.1 == q.1)) [
  | inl t ↦ rw (are q, same_spot k q, goes_there c.object e k q is, t) (last ∙ ap (λ p. max (unwrap_or (f p) 0) (place_of c e)) (sym (spot_is k q t)))
  | inr t ↦ rw (are q, same_spot k q, goes_there c.object e k q is, t) refl
]

-- where no entry is a low one, none goes with a high one
pub no_ends : (c : NewCell) → list_any may_go c.object.entries ≡ false → (q : ℕ × ℕ) → end_of c c.object.entries q ≡ 0
no_ends c none q =
    ap (λ (es : List Entry). fold max 0 (map (place_of c) es))
    (filter_none (goes_to c.object q) c.object.entries (λ e there. goes_nowhere c.object e q (alone e (none-In may_go c.object.entries none e there))))
  where
    alone : (e : Entry) → may_go e ≡ false → option_map spot_of (partner_of c.object e) ≡ None
    alone e h = let parts = or_parts (is_pcrel_lo12 e.kind) (is_low e.kind) h in rw (parts.0, parts.1) refl

-- one more entry
pub end_more : (c : NewCell) (es : List Entry) (i : ℕ) (d : Entry) (q : ℕ × ℕ) (old new : ℕ) → i < length es → old ≡ end_of c (take i es) q
    → new ≡ cond (goes_to c.object q (get_or es i d)) (max old (place_of c (get_or es i d))) old → new ≡ end_of c (take (i + 1) es) q
end_more c es i d q old new below were is =
    is ∙ rw (filter_more (goes_to c.object q) es i d below, map_append (place_of c) (filter (goes_to c.object q) (take i es)) (cond (goes_to c.object q (get_or es i d)) (get_or es i d ∷ []) []), were)
    (last (goes_to c.object q (get_or es i d)))
  where
    last : (b : Bool) → cond b (max (end_of c (take i es) q) (place_of c (get_or es i d))) (end_of c (take i es) q)
        ≡ fold max 0 (map (place_of c) (filter (goes_to c.object q) (take i es)) ++ map (place_of c) (cond b (get_or es i d ∷ []) []))
    last true = sym (fold-append max 0 (map (place_of c) (filter (goes_to c.object q) (take i es))) (place_of c (get_or es i d) ∷ []))
    last false = sym (fold-append max 0 (map (place_of c) (filter (goes_to c.object q) (take i es))) [])

goes_same : (object : Object) (high e : Entry) → goes_with object high e ≡ goes_to object (spot_of high) e
goes_same object high e = refl

fold_max : (a : ℕ) (xs : List ℕ) → fold max a xs ≡ max (fold max 0 xs) a
fold_max a [] = omega arith
fold_max a (x ∷ xs) = omega (arith, fold_max (max a x) xs, fold_max (max 0 x) xs)

pub last_is : (c : NewCell) (high : Entry) → max (end_of c c.object.entries (spot_of high)) (place_of c high) ≡ last_low c high
last_is c high =
    sym (ap (λ es. fold max (place_of c high) (map (place_of c) es)) (filter_agree (goes_with c.object high) (goes_to c.object (spot_of high)) (goes_same c.object high) c.object.entries)
    ∙ fold_max (place_of c high) (map (place_of c) (filter (goes_to c.object (spot_of high)) c.object.entries)))
