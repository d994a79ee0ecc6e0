-- What is looked up in a list is looked up among the elements that stay.
use Rattle.std.proofs.Common.{◌≡◌, refl, sym, ◌∙◌, ap, subst, ℕ, suc, inl, inr, Bool, true, false, cond, List, [], ◌∷◌, ◌++◌, true≢false}
use Rattle.std.specs.Prelude.{Option, Some, None, find, filter, filter_map, flat_map, not}
use Rattle.std.specs.List.{cons_option}
use Rattle.std.proofs.lemmas.List.Elements.{filter-append}
use Rattle.cell_num.specs.Lists.{first, numbered_from, In}

module _ {X Y : Type 0} (f : X → Option Y) where
  -- the first stays the first where no element that gives it is taken away
  pub first_stays : (stay : X → Bool) (xs : List X) (o : Option Y) → first (filter_map f xs) ≡ o → ((x : X) (y : Y) → In x xs → f x ≡ Some y → o ≡ Some y → stay x ≡ true) → first (filter_map f (filter stay xs)) ≡ o
  first_stays stay [] o e h = e
  first_stays stay (x ∷ xs) o e h = go (f x) refl (stay x) refl e (λ k. first_stays stay xs o k (λ z y i. h z y (inr i)))
    where
      go : (v : Option Y) → f x ≡ v → (b : Bool) → stay x ≡ b → first (cons_option v (filter_map f xs)) ≡ o
          → (first (filter_map f xs) ≡ o → first (filter_map f (filter stay xs)) ≡ o) → first (filter_map f (cond b (x ∷ filter stay xs) (filter stay xs))) ≡ o
      go None p true s q rec = ap (λ u. first (cons_option u (filter_map f (filter stay xs)))) p ∙ rec q
      go None p false s q rec = rec q
      go (Some y) p true s q rec = ap (λ u. first (cons_option u (filter_map f (filter stay xs)))) p ∙ q
      go (Some y) p false s q rec = absurd (true≢false (sym (h x y (inl refl) p (sym q)) ∙ s))

  pub filter_map-In : (xs : List X) (x : X) (y : Y) → In x xs → f x ≡ Some y → In y (filter_map f xs)
  filter_map-In [] x y h e = absurd h
  filter_map-In (z ∷ zs) x y h e = go (f z) refl h (filter_map-In zs x y)
    where
      go : (o : Option Y) → f z ≡ o → In x (z ∷ zs) → (In x zs → f x ≡ Some y → In y (filter_map f zs)) → In y (cons_option o (filter_map f zs))
      go None s (inl a) rec = let q : f z ≡ Some y = subst (λ v. f v ≡ Some y) a e in cc
      go None s (inr i) rec = rec i e
      go (Some v) s (inl a) rec = let q : f z ≡ Some y = subst (λ u. f u ≡ Some y) a e in let t : y ≡ v = cc in inl t
      go (Some v) s (inr i) rec = inr (rec i e)

module _ {X : Type 0} where
  -- the order of two filters makes no difference
  pub filter_swap : (p q : X → Bool) (xs : List X) → filter p (filter q xs) ≡ filter q (filter p xs)
  filter_swap p q [] = refl
  filter_swap p q (x ∷ xs) = go (p x) (q x) refl refl (filter_swap p q xs)
    where
      go : (a b : Bool) → p x ≡ a → q x ≡ b → filter p (filter q xs) ≡ filter q (filter p xs) → filter p (cond b (x ∷ filter q xs) (filter q xs)) ≡ filter q (cond a (x ∷ filter p xs) (filter p xs))
      go true true s t ih = ap (λ v. cond v (x ∷ filter p (filter q xs)) (filter p (filter q xs))) s ∙ ap (λ v. x ∷ v) ih ∙ sym (ap (λ v. cond v (x ∷ filter q (filter p xs)) (filter q (filter p xs))) t)
      go true false s t ih = ih ∙ sym (ap (λ v. cond v (x ∷ filter q (filter p xs)) (filter q (filter p xs))) t)
      go false true s t ih = ap (λ v. cond v (x ∷ filter p (filter q xs)) (filter p (filter q xs))) s ∙ ih
      go false false s t ih = ih

  -- what is found stays found where it stays
  pub find_stays : (p stay : X → Bool) (xs : List X) → ((x : X) → In x xs → p x ≡ true → stay x ≡ true) → find p (filter stay xs) ≡ find p xs
  find_stays p stay [] h = refl
  find_stays p stay (x ∷ xs) h = go (p x) (stay x) refl refl (h x (inl refl)) (find_stays p stay xs (λ y i. h y (inr i)))
    where
      go : (a b : Bool) → p x ≡ a → stay x ≡ b → (p x ≡ true → stay x ≡ true) → find p (filter stay xs) ≡ find p xs → find p (cond b (x ∷ filter stay xs) (filter stay xs)) ≡ cond a (Some x) (find p xs)
      go a true s t f ih = ap (λ v. cond v (Some x) (find p (filter stay xs))) s ∙ ap (λ v. cond a (Some x) v) ih
      go true false s t f ih = absurd (true≢false (sym (f s) ∙ t))
      go false false s t f ih = ih

  -- each element has a place
  pub has_place : (xs : List X) (i : ℕ) (x : X) → In x xs → (n : ℕ) × In (n, x) (numbered_from i xs)
  has_place [] i x h = absurd h
  has_place (y ∷ ys) i x (inl e) = (i, inl (ap (λ v. (i, v)) e))
  has_place (y ∷ ys) i x (inr h) = let r : (n : ℕ) × In (n, x) (numbered_from (suc i) ys) = has_place ys (suc i) x h in (r.0, inr r.1)

module _ {A X : Type 0} where
  -- what is kept of lists in a row is what the elements that stay give
  pub flat_kept : (keep : X → Bool) (f g : A → List X) (stay : A → Bool) (xs : List A) → ((a : A) → In a xs → stay a ≡ true → filter keep (f a) ≡ g a) → ((a : A) → In a xs → stay a ≡ false → filter keep (f a) ≡ [])
      → filter keep (flat_map f xs) ≡ flat_map g (filter stay xs)
  flat_kept keep f g stay [] p q = refl
  flat_kept keep f g stay (a ∷ xs) p q = filter-append keep (f a) (flat_map f xs) ∙ go (stay a) refl (flat_kept keep f g stay xs (λ b i. p b (inr i)) (λ b i. q b (inr i)))
    where
      go : (b : Bool) → stay a ≡ b → filter keep (flat_map f xs) ≡ flat_map g (filter stay xs) → filter keep (f a) ++ filter keep (flat_map f xs) ≡ flat_map g (cond b (a ∷ filter stay xs) (filter stay xs))
      go true s ih = ap (λ v. v ++ filter keep (flat_map f xs)) (p a (inl refl) s) ∙ ap (λ v. g a ++ v) ih
      go false s ih = ap (λ v. v ++ filter keep (flat_map f xs)) (q a (inl refl) s) ∙ ih

pub unnot : (b : Bool) → not b ≡ true → b ≡ false
unnot true e = absurd (true≢false (sym e))
unnot false e = refl

pub unnot_false : (b : Bool) → not b ≡ false → b ≡ true
unnot_false true e = refl
unnot_false false e = absurd (true≢false e)
