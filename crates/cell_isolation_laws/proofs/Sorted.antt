-- Lists that are filtered twice, mapped and filtered, or that rise.
use Rattle.std.proofs.Common.{◌≡◌, refl, sym, ◌∙◌, ap, ap₂, subst, ◌⊎◌, inl, inr, Bool, true, false, cond, ◌&&◌, List, [], ◌∷◌, map, true≢false}
use Rattle.std.specs.Prelude.{filter}
use Rattle.std.specs.List.{list_all}
use Rattle.std.proofs.lemmas.Bool.{and_parts}
use Rattle.cell_num.specs.Lists.{each_pair, In}
use Rattle.cell_num.proofs.Elements.{all-In}

module _ {X : Type 0} where
  -- what a map leaves that passes, and doesn't make pass
  pub filter_fixed : (p : X → Bool) (f : X → X) (xs : List X) → ((x : X) → In x xs → p x ≡ true → f x ≡ x) → ((x : X) → In x xs → p x ≡ false → p (f x) ≡ false) → filter p (map f xs) ≡ filter p xs
  filter_fixed p f [] s g = refl
  filter_fixed p f (x ∷ xs) s g = go (p x) refl (filter_fixed p f xs (λ y i. s y (inr i)) (λ y i. g y (inr i)))
    where
      go : (b : Bool) → p x ≡ b → filter p (map f xs) ≡ filter p xs → cond (p (f x)) (f x ∷ filter p (map f xs)) (filter p (map f xs)) ≡ cond b (x ∷ filter p xs) (filter p xs)
      go true e ih = ap (λ (y : X). cond (p y) (y ∷ filter p (map f xs)) (filter p (map f xs))) (s x (inl refl) e) ∙ (ap (λ b. cond b (x ∷ filter p (map f xs)) (filter p (map f xs))) e ∙ ap (λ (ys : List X). x ∷ ys) ih)
      go false e ih = ap (λ b. cond b (f x ∷ filter p (map f xs)) (filter p (map f xs))) (g x (inl refl) e) ∙ ih

  -- a filter before one that asks for more makes no difference
  pub filter_inside : (p q : X → Bool) (xs : List X) → ((x : X) → In x xs → p x ≡ true → q x ≡ true) → filter p (filter q xs) ≡ filter p xs
  filter_inside p q [] f = refl
  filter_inside p q (x ∷ xs) f = go (p x) refl (q x) refl (filter_inside p q xs (λ y i. f y (inr i)))
    where
      go : (a : Bool) → p x ≡ a → (b : Bool) → q x ≡ b → filter p (filter q xs) ≡ filter p xs → filter p (cond b (x ∷ filter q xs) (filter q xs)) ≡ cond a (x ∷ filter p xs) (filter p xs)
      go true e true k ih = ap (λ c. cond c (x ∷ filter p (filter q xs)) (filter p (filter q xs))) e ∙ ap (λ (ys : List X). x ∷ ys) ih
      go false e true k ih = ap (λ c. cond c (x ∷ filter p (filter q xs)) (filter p (filter q xs))) e ∙ ih
      go true e false k ih = absurd (true≢false (sym (f x (inl refl) e) ∙ k))
      go false e false k ih = ih

  pub narrowed : (q r a : X → Bool) (xs : List X) → ((x : X) → q x ≡ true → r x ≡ true) → filter q (filter a xs) ≡ filter q (filter (λ x. a x && r x) xs)
  narrowed q r a [] f = refl
  narrowed q r a (x ∷ xs) f = go (a x) (r x) refl (q x) refl (narrowed q r a xs f)
    where
      go : (b c : Bool) → r x ≡ c → (d : Bool) → q x ≡ d → filter q (filter a xs) ≡ filter q (filter (λ y. a y && r y) xs)
          → filter q (cond b (x ∷ filter a xs) (filter a xs)) ≡ filter q (cond (b && c) (x ∷ filter (λ y. a y && r y) xs) (filter (λ y. a y && r y) xs))
      go false c e d k ih = ih
      go true true e d k ih = ap (λ (ys : List X). cond (q x) (x ∷ ys) ys) ih
      go true false e true k ih = absurd (true≢false (sym (f x k) ∙ e))
      go true false e false k ih = ap (λ t. cond t (x ∷ filter q (filter a xs)) (filter q (filter a xs))) k ∙ ih

-- two lists that rise and have the same elements are the same
module _ {X : Type 0} (t : X → X → Bool) (not_back : (x y : X) → t x y ≡ true → t y x ≡ true → ⊥) (not_self : (x : X) → t x x ≡ true → ⊥) where
  pub rise_same : (xs ys : List X) → each_pair t xs ≡ true → each_pair t ys ≡ true → ((x : X) → In x xs → In x ys) → ((x : X) → In x ys → In x xs) → xs ≡ ys
  rise_same [] [] a b f g = refl
  rise_same [] (y ∷ ys) a b f g = absurd (g y (inl refl))
  rise_same (x ∷ xs) [] a b f g = absurd (f x (inl refl))
  rise_same (x ∷ xs) (y ∷ ys) a b f g =
      let p = and_parts (list_all (t x) xs) (each_pair t xs) a in
      let q = and_parts (list_all (t y) ys) (each_pair t ys) b in
      let e : x ≡ y = heads p.0 q.0 (f x (inl refl)) (g y (inl refl)) in
      ap₂ (λ z (zs : List X). z ∷ zs) e (rise_same xs ys p.1 q.1 (λ z i. later_y p.0 e z i (f z (inr i))) (λ z i. later_x q.0 e z i (g z (inr i))))
    where
      heads : list_all (t x) xs ≡ true → list_all (t y) ys ≡ true → (x ≡ y) ⊎ In x ys → (y ≡ x) ⊎ In y xs → x ≡ y
      heads p q (inl e) k = e
      heads p q (inr i) (inl e) = sym e
      heads p q (inr i) (inr j) = absurd (not_back x y (all-In (t x) xs p y j) (all-In (t y) ys q x i))

      later_y : list_all (t x) xs ≡ true → x ≡ y → (z : X) → In z xs → (z ≡ y) ⊎ In z ys → In z ys
      later_y p e z i (inl k) = absurd (not_self x (subst (λ u. t x u ≡ true) (k ∙ sym e) (all-In (t x) xs p z i)))
      later_y p e z i (inr k) = k

      later_x : list_all (t y) ys ≡ true → x ≡ y → (z : X) → In z ys → (z ≡ x) ⊎ In z xs → In z xs
      later_x q e z i (inl k) = absurd (not_self y (subst (λ u. t y u ≡ true) (k ∙ e) (all-In (t y) ys q z i)))
      later_x q e z i (inr k) = k
