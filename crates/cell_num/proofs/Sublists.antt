-- What filters, maps and folds leave of tests over a list.
use Rattle.std.proofs.Common.{◌≡◌, refl, sym, ◌∙◌, ap, subst, arith, ◌≤◌, inl, inr, Bool, true, false, cond, List, [], ◌∷◌, ◌++◌, length, map, true≢false}
use Rattle.std.specs.Prelude.{filter, ◌&&◌, fold}
use Rattle.std.specs.List.{list_all}
use Rattle.std.proofs.lemmas.Bool.{and_parts, and_from}
use Rattle.cell_num.specs.Lists.{each_pair}
use Rattle.cell_num.proofs.Elements.{In, all-In, In-all, In-filtered, In-map}

pub and_left : (a b : Bool) → (a && b) ≡ true → a ≡ true
and_left a b h = (and_parts a b h).0

pub and_right : (a b : Bool) → (a && b) ≡ true → b ≡ true
and_right a b h = (and_parts a b h).1

module _ {X : Type 0} where
  pub all-filter : (p q : X → Bool) (xs : List X) → list_all p xs ≡ true → list_all p (filter q xs) ≡ true
  all-filter p q xs h = In-all p (filter q xs) (λ x k. all-In p xs h x (In-filtered q xs x k))

  pub pairs-filter : (t : X → X → Bool) (p : X → Bool) (xs : List X) → each_pair t xs ≡ true → each_pair t (filter p xs) ≡ true
  pairs-filter t p [] h = refl
  pairs-filter t p (y ∷ ys) h = go (p y) (pairs-filter t p ys (and_right (list_all (t y) ys) (each_pair t ys) h))
    where
      go : (b : Bool) → each_pair t (filter p ys) ≡ true → each_pair t (cond b (y ∷ filter p ys) (filter p ys)) ≡ true
      go true ih = and_from _ _ (all-filter (t y) p ys (and_left (list_all (t y) ys) (each_pair t ys) h)) ih
      go false ih = ih

  pub filter_same : (p q : X → Bool) (xs : List X) → ((x : X) → In x xs → p x ≡ q x) → filter p xs ≡ filter q xs
  filter_same p q [] f = refl
  filter_same p q (y ∷ ys) f = go (p y) (q y) (f y (inl refl)) (filter_same p q ys (λ x k. f x (inr k)))
    where
      go : (a b : Bool) → a ≡ b → filter p ys ≡ filter q ys → cond a (y ∷ filter p ys) (filter p ys) ≡ cond b (y ∷ filter q ys) (filter q ys)
      go true true e ih = ap (λ zs. y ∷ zs) ih
      go false false e ih = ih
      go true false e ih = absurd (true≢false e)
      go false true e ih = absurd (true≢false (sym e))

  pub length-filter_le : (p : X → Bool) (xs : List X) → length (filter p xs) ≤ length xs
  length-filter_le p [] = omega arith
  length-filter_le p (x ∷ xs) = go (p x) (length-filter_le p xs)
    where
      go : (b : Bool) → length (filter p xs) ≤ length xs → length (cond b (x ∷ filter p xs) (filter p xs)) ≤ length (x ∷ xs)
      go true h = omega (arith, h)
      go false h = omega (arith, h)

  pub all-append : (p : X → Bool) (xs ys : List X) → list_all p xs ≡ true → list_all p ys ≡ true → list_all p (xs ++ ys) ≡ true
  all-append p [] ys h k = k
  all-append p (x ∷ xs) ys h k =
      let both = and_parts (p x) (list_all p xs) h in and_from (p x) (list_all p (xs ++ ys)) both.0 (all-append p xs ys both.1 k)

  -- a test of pairs, of one list behind another
  pub pairs-append : (t : X → X → Bool) (xs ys : List X) → each_pair t xs ≡ true → each_pair t ys ≡ true → ((x y : X) → In x xs → In y ys → t x y ≡ true) → each_pair t (xs ++ ys) ≡ true
  pairs-append t [] ys h k f = k
  pairs-append t (x ∷ xs) ys h k f =
      let both = and_parts (list_all (t x) xs) (each_pair t xs) h in
      and_from (list_all (t x) (xs ++ ys)) (each_pair t (xs ++ ys))
      (all-append (t x) xs ys both.0 (In-all (t x) ys (λ y i. f x y (inl refl) i)))
      (pairs-append t xs ys both.1 k (λ a y i j. f a y (inr i) j))

  -- a map that leaves each element leaves the list
  pub In-fixed : (f : X → X) (xs : List X) → ((x : X) → In x xs → f x ≡ x) → map f xs ≡ xs
  In-fixed f [] g = refl
  In-fixed f (y ∷ ys) g = ap (λ v. v ∷ map f ys) (g y (inl refl)) ∙ ap (λ vs. y ∷ vs) (In-fixed f ys (λ x k. g x (inr k)))

module _ {X Y : Type 0} where
  pub map_filter : (f : X → Y) (p : Y → Bool) (xs : List X) → map f (filter (λ x. p (f x)) xs) ≡ filter p (map f xs)
  map_filter f p [] = refl
  map_filter f p (y ∷ ys) = go (p (f y)) (map_filter f p ys)
    where
      go : (b : Bool) → map f (filter (λ x. p (f x)) ys) ≡ filter p (map f ys) → map f (cond b (y ∷ filter (λ x. p (f x)) ys) (filter (λ x. p (f x)) ys)) ≡ cond b (f y ∷ filter p (map f ys)) (filter p (map f ys))
      go true ih = ap (λ zs. f y ∷ zs) ih
      go false ih = ih

  -- where the map keeps the test of two elements, the pairs pass as before
  pub pairs_kept : (t : X → X → Bool) (u : Y → Y → Bool) (f : X → Y) (xs : List X) → ((x y : X) → In x xs → In y xs → u (f x) (f y) ≡ t x y) → each_pair t xs ≡ true → each_pair u (map f xs) ≡ true
  pairs_kept t u f [] e h = refl
  pairs_kept t u f (y ∷ ys) e h =
      and_from _ _
      (In-all (u (f y)) (map f ys) (λ z i. there z (In-map f ys z i)))
      (pairs_kept t u f ys (λ a b i j. e a b (inr i) (inr j)) (and_right (list_all (t y) ys) (each_pair t ys) h))
    where
      there : (z : Y) → (x : X) × In x ys × (z ≡ f x) → u (f y) z ≡ true
      there z r =
          subst (λ v. u (f y) v ≡ true) (sym r.2)
          (e y r.0 (inl refl) (inr r.1) ∙ all-In (t y) ys (and_left (list_all (t y) ys) (each_pair t ys) h) r.0 r.1)

module _ {X A : Type 0} where
  -- what commutes with each step commutes with the fold
  pub fold_commutes : (g : X → A → X) (f : X → X) (P : X → Type 0) (items : List A) → ((a : A) → In a items → (x : X) → P x → (g (f x) a ≡ f (g x a)) × P (g x a))
      → (x : X) → P x → (fold g (f x) items ≡ f (fold g x items)) × P (fold g x items)
  fold_commutes g f P [] e x p = (refl, p)
  fold_commutes g f P (a ∷ items) e x p =
      let s : (g (f x) a ≡ f (g x a)) × P (g x a) = e a (inl refl) x p in
      let r : (fold g (f (g x a)) items ≡ f (fold g (g x a) items)) × P (fold g (g x a) items) = fold_commutes g f P items (λ b i. e b (inr i)) (g x a) s.1 in
      (ap (λ v. fold g v items) s.0 ∙ r.0, r.1)

-- a map that leaves a list leaves each element
pub fixed-In : {X : Type 0} (f : X → X) (xs : List X) → map f xs ≡ xs → (x : X) → In x xs → f x ≡ x
fixed-In f [] h x k = absurd k
fixed-In f (y ∷ xs) h x (inl e) = let k : f y ≡ y = cc in subst (λ v. f v ≡ v) (sym e) k
fixed-In f (y ∷ xs) h x (inr k) = let t : map f xs ≡ xs = cc in fixed-In f xs t x k
