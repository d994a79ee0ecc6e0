-- A filter goes through the sorting of shapes by their starts.
use Rattle.std.proofs.Common.{◌≡◌, refl, sym, ◌∙◌, ap, subst, arith, ◌≤◌, ◌⊎◌, inl, inr, Bool, true, false, cond, List, [], ◌∷◌}
use Rattle.std.specs.Prelude.{filter, nat_lt, nat_le}
use Rattle.std.specs.List.{list_all}
use Rattle.std.proofs.lemmas.Bool.{and_from}
use Rattle.cell_num.specs.Lists.{each_pair, In}
use Rattle.cell_world.specs.Coherent.{Shape, with_shape}
use Rattle.cell_num.proofs.Elements.{all-In, In-all, In-filtered}
use Rattle.cell_lemmas.proofs.Placement.PlacedAll.{Put}
use Rattle.cell_num.proofs.Sublists.{and_left, and_right}

abbrev pub Rise : List Shape → Type 0
Rise ts = each_pair (λ (a b : Shape). nat_le a.start b.start) ts ≡ true

abbrev pub above : Shape → Shape → Bool
above a b = nat_le a.start b.start

pub In-with : (s : Shape) (ts : List Shape) (x : Shape) → In x (with_shape s ts) → (x ≡ s) ⊎ In x ts
In-with s [] x (inl e) = inl e
In-with s [] x (inr e) = absurd e
In-with s (t ∷ ts) x h = go (nat_lt s.start t.start) h (In-with s ts x)
  where
    go : (b : Bool) → In x (cond b (s ∷ t ∷ ts) (t ∷ with_shape s ts)) → (In x (with_shape s ts) → (x ≡ s) ⊎ In x ts) → (x ≡ s) ⊎ In x (t ∷ ts)
    go true (inl e) f = inl e
    go true (inr k) f = inr k
    go false (inl e) f = inr (inl e)
    go false (inr k) f = back (f k)
      where
        back : (x ≡ s) ⊎ In x ts → (x ≡ s) ⊎ In x (t ∷ ts)
        back (inl e) = inl e
        back (inr i) = inr (inr i)

rise_with : (s : Shape) (ts : List Shape) → Rise ts → Rise (with_shape s ts)
rise_with s [] h = refl
rise_with s (t ∷ ts) h = go (nat_lt s.start t.start) refl (rise_with s ts (and_right (list_all (above t) ts) (each_pair above ts) h))
  where
    tail_up : (x : Shape) → In x ts → nat_le t.start x.start ≡ true
    tail_up x k = all-In (above t) ts (and_left (list_all (above t) ts) (each_pair above ts) h) x k

    low : s.start ≤ t.start → (x : Shape) → In x (t ∷ ts) → nat_le s.start x.start ≡ true
    low l x (inl e) = subst (λ (v : Shape). nat_le s.start v.start ≡ true) (sym e) (grind (arith, l))
    low l x (inr k) = let u : nat_le t.start x.start ≡ true = tail_up x k in grind (arith, u, l)

    high : nat_lt s.start t.start ≡ false → (x : Shape) → In x (with_shape s ts) → nat_le t.start x.start ≡ true
    high l x k = pick (In-with s ts x k)
      where
        pick : (x ≡ s) ⊎ In x ts → nat_le t.start x.start ≡ true
        pick (inl e) = subst (λ (v : Shape). nat_le t.start v.start ≡ true) (sym e) (grind (arith, l))
        pick (inr i) = tail_up x i

    go : (b : Bool) → nat_lt s.start t.start ≡ b → Rise (with_shape s ts) → Rise (cond b (s ∷ t ∷ ts) (t ∷ with_shape s ts))
    go true l ih = and_from (list_all (above s) (t ∷ ts)) _ (In-all (above s) (t ∷ ts) (low (grind (arith, l)))) h
    go false l ih = and_from (list_all (above t) (with_shape s ts)) _ (In-all (above t) (with_shape s ts) (high l)) ih

with_low : (s : Shape) (ts : List Shape) → ((x : Shape) → In x ts → nat_lt s.start x.start ≡ true) → with_shape s ts ≡ s ∷ ts
with_low s [] f = refl
with_low s (t ∷ ts) f = ap (λ b. cond b (s ∷ t ∷ ts) (t ∷ with_shape s ts)) (f t (inl refl))

-- a filter goes through the insertion
pub filter_with : (p : Shape → Bool) (s : Shape) (ts : List Shape) → Rise ts → filter p (with_shape s ts) ≡ cond (p s) (with_shape s (filter p ts)) (filter p ts)
filter_with p s [] h = refl
filter_with p s (t ∷ ts) h = go (nat_lt s.start t.start) refl (filter_with p s ts (and_right (list_all (above t) ts) (each_pair above ts) h))
  where
    up : nat_lt s.start t.start ≡ true → (x : Shape) → In x (t ∷ ts) → nat_lt s.start x.start ≡ true
    up l x (inl e) = subst (λ (v : Shape). nat_lt s.start v.start ≡ true) (sym e) l
    up l x (inr k) = let u : nat_le t.start x.start ≡ true = all-In (above t) ts (and_left (list_all (above t) ts) (each_pair above ts) h) x k in grind (arith, u, l)

    first_in : nat_lt s.start t.start ≡ true → with_shape s (filter p (t ∷ ts)) ≡ s ∷ filter p (t ∷ ts)
    first_in l = with_low s (filter p (t ∷ ts)) (λ x k. up l x (In-filtered p (t ∷ ts) x k))

    past : nat_lt s.start t.start ≡ false → (us : List Shape) → with_shape s (t ∷ us) ≡ t ∷ with_shape s us
    past l us = ap (λ b. cond b (s ∷ t ∷ us) (t ∷ with_shape s us)) l

    both : (b c : Bool) → nat_lt s.start t.start ≡ false → filter p (with_shape s ts) ≡ cond b (with_shape s (filter p ts)) (filter p ts)
        → cond c (t ∷ filter p (with_shape s ts)) (filter p (with_shape s ts)) ≡ cond b (with_shape s (cond c (t ∷ filter p ts) (filter p ts))) (cond c (t ∷ filter p ts) (filter p ts))
    both true true l ih = ap (λ v. t ∷ v) ih ∙ sym (past l (filter p ts))
    both true false l ih = ih
    both false true l ih = ap (λ v. t ∷ v) ih
    both false false l ih = ih

    go : (b : Bool) → nat_lt s.start t.start ≡ b → filter p (with_shape s ts) ≡ cond (p s) (with_shape s (filter p ts)) (filter p ts)
        → filter p (cond b (s ∷ t ∷ ts) (t ∷ with_shape s ts)) ≡ cond (p s) (with_shape s (filter p (t ∷ ts))) (filter p (t ∷ ts))
    go true l ih = ap (λ v. cond (p s) v (filter p (t ∷ ts))) (sym (first_in l))
    go false l ih = both (p s) (p t) l ih

pub filter_put : (p : Shape → Bool) (ls acc : List Shape) → Rise acc → filter p (Put acc ls) ≡ Put (filter p acc) (filter p ls)
filter_put p [] acc h = refl
filter_put p (s ∷ ls) acc h =
    filter_put p ls (with_shape s acc) (rise_with s acc h) ∙ ap (λ v. Put v (filter p ls)) (filter_with p s acc h) ∙ go (p s)
  where
    go : (b : Bool) → Put (cond b (with_shape s (filter p acc)) (filter p acc)) (filter p ls) ≡ Put (filter p acc) (cond b (s ∷ filter p ls) (filter p ls))
    go true = refl
    go false = refl
