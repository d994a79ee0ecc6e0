-- What holds of each element of a list, against the tests that are computed over it.
use Rattle.std.proofs.Common.{◌≡◌, refl, sym, ◌∙◌, ap, subst, arith, ℕ, zero, suc, ◌+◌, ◌<◌, ◌⊎◌, inl, inr, Bool, true, false, cond, not, ◌&&◌, ◌||◌, List, [], ◌∷◌, ◌++◌, map, length, true≢false}
use Rattle.std.specs.Prelude.{Option, Some, None, All, find, filter, filter_map, flat_map, fold, position, nat_lt, slice_get, is_some, is_none}
use Rattle.std.specs.List.{list_any, list_all, cons_option, slice_index_or, prefix_len}
use Rattle.std.proofs.lemmas.Bool.{and_parts, and_from, or_parts, or_cases, or_left, ltb-true}
use Rattle.std.proofs.lemmas.List.Folds.{list_all-map}
use Rattle.std.proofs.Math.Bool.{or-true}
use Rattle.cell_num.specs.Lists.{each_pair, numbered_from, first, or_else}
pub use Rattle.cell_num.specs.Lists.{In}

none_cons : (a b : Bool) → a ≡ false → b ≡ false → (a || b) ≡ false
none_cons true b h k = h
none_cons false b h k = k

module _ {X : Type 0} where
  pub all-In : (p : X → Bool) (xs : List X) → list_all p xs ≡ true → (x : X) → In x xs → p x ≡ true
  all-In p [] h x k = absurd k
  all-In p (y ∷ ys) h x (inl e) = subst (λ v. p v ≡ true) (sym e) (and_parts (p y) (list_all p ys) h).0
  all-In p (y ∷ ys) h x (inr k) = all-In p ys (and_parts (p y) (list_all p ys) h).1 x k

  pub In-all : (p : X → Bool) (xs : List X) → ((x : X) → In x xs → p x ≡ true) → list_all p xs ≡ true
  In-all p [] f = refl
  In-all p (y ∷ ys) f = and_from (p y) (list_all p ys) (f y (inl refl)) (In-all p ys (λ x k. f x (inr k)))

  pub none-In : (p : X → Bool) (xs : List X) → list_any p xs ≡ false → (x : X) → In x xs → p x ≡ false
  none-In p [] h x k = absurd k
  none-In p (y ∷ ys) h x (inl e) = subst (λ v. p v ≡ false) (sym e) (or_parts (p y) (list_any p ys) h).0
  none-In p (y ∷ ys) h x (inr k) = none-In p ys (or_parts (p y) (list_any p ys) h).1 x k

  pub In-none : (p : X → Bool) (xs : List X) → ((x : X) → In x xs → p x ≡ false) → list_any p xs ≡ false
  In-none p [] f = refl
  In-none p (y ∷ ys) f = none_cons (p y) (list_any p ys) (f y (inl refl)) (In-none p ys (λ x k. f x (inr k)))

  find_cons : (b : Bool) (y : X) (rest : Option X) → cond b (Some y) rest ≡ None → (b ≡ false) × (rest ≡ None)
  find_cons true y rest h = cc
  find_cons false y rest h = (refl, h)

  pub unfound-In : (p : X → Bool) (xs : List X) → find p xs ≡ None → (x : X) → In x xs → p x ≡ false
  unfound-In p [] h x k = absurd k
  unfound-In p (y ∷ ys) h x (inl e) = subst (λ v. p v ≡ false) (sym e) (find_cons (p y) y (find p ys) h).0
  unfound-In p (y ∷ ys) h x (inr k) = unfound-In p ys (find_cons (p y) y (find p ys) h).1 x k

  found_cons : (b : Bool) (p : X → Bool) (y : X) (ys : List X) (x : X) → p y ≡ b → cond b (Some y) (find p ys) ≡ Some x → (find p ys ≡ Some x → In x ys × (p x ≡ true)) → In x (y ∷ ys) × (p x ≡ true)
  found_cons true p y ys x e h f = let k : x ≡ y = cc in (inl k, subst (λ v. p v ≡ true) (sym k) e)
  found_cons false p y ys x e h f = (inr (f h).0, (f h).1)

  pub found-In : (p : X → Bool) (xs : List X) (x : X) → find p xs ≡ Some x → In x xs × (p x ≡ true)
  found-In p [] x h = cc
  found-In p (y ∷ ys) x h = found_cons (p y) p y ys x refl h (found-In p ys x)

  In-cons : (b : Bool) (x y : X) (xs : List X) → In x xs → In x (cond b (y ∷ xs) xs)
  In-cons true x y xs h = inr h
  In-cons false x y xs h = h

  In-head : (b : Bool) (x y : X) (xs : List X) → x ≡ y → b ≡ true → In x (cond b (y ∷ xs) xs)
  In-head true x y xs e h = inl e
  In-head false x y xs e h = absurd (true≢false (sym h))

  pub filter-In : (p : X → Bool) (xs : List X) (x : X) → In x xs → p x ≡ true → In x (filter p xs)
  filter-In p [] x h t = absurd h
  filter-In p (y ∷ ys) x (inl e) t = In-head (p y) x y (filter p ys) e (subst (λ v. p v ≡ true) e t)
  filter-In p (y ∷ ys) x (inr h) t = In-cons (p y) x y (filter p ys) (filter-In p ys x h t)

  pub In-left : (xs ys : List X) (x : X) → In x xs → In x (xs ++ ys)
  In-left [] ys x h = absurd h
  In-left (y ∷ xs) ys x (inl e) = inl e
  In-left (y ∷ xs) ys x (inr h) = inr (In-left xs ys x h)

  pub In-right : (xs ys : List X) (x : X) → In x ys → In x (xs ++ ys)
  In-right [] ys x h = h
  In-right (y ∷ xs) ys x h = inr (In-right xs ys x h)

  pub In-append : (xs ys : List X) (x : X) → In x (xs ++ ys) → In x xs ⊎ In x ys
  In-append [] ys x h = inr h
  In-append (y ∷ xs) ys x (inl e) = inl (inl e)
  In-append (y ∷ xs) ys x (inr h) = go (In-append xs ys x h)
    where
      go : In x xs ⊎ In x ys → ((x ≡ y) ⊎ In x xs) ⊎ In x ys
      go (inl k) = inl (inr k)
      go (inr k) = inr k

  filtered_cons : (b : Bool) (x y : X) (xs : List X) → In x (cond b (y ∷ xs) xs) → (x ≡ y) ⊎ In x xs
  filtered_cons true x y xs h = h
  filtered_cons false x y xs h = inr h

  pub In-filtered : (p : X → Bool) (xs : List X) (x : X) → In x (filter p xs) → In x xs
  In-filtered p [] x h = h
  In-filtered p (y ∷ ys) x h = go (filtered_cons (p y) x y (filter p ys) h) (In-filtered p ys x)
    where
      go : (x ≡ y) ⊎ In x (filter p ys) → (In x (filter p ys) → In x ys) → (x ≡ y) ⊎ In x ys
      go (inl e) f = inl e
      go (inr k) f = inr (f k)

  pub filter-Passes : (p : X → Bool) (xs : List X) (x : X) → In x (filter p xs) → p x ≡ true
  filter-Passes p [] x h = absurd h
  filter-Passes p (y ∷ ys) x h = passes (p y) refl h (filter-Passes p ys x)
    where
      passes : (b : Bool) → p y ≡ b → In x (cond b (y ∷ filter p ys) (filter p ys)) → (In x (filter p ys) → p x ≡ true) → p x ≡ true
      passes true e (inl k) f = subst (λ v. p v ≡ true) (sym k) e
      passes true e (inr k) f = f k
      passes false e k f = f k

  pub filter_all : (p : X → Bool) (xs : List X) → ((x : X) → In x xs → p x ≡ true) → filter p xs ≡ xs
  filter_all p [] f = refl
  filter_all p (y ∷ ys) f = ap (λ b. cond b (y ∷ filter p ys) (filter p ys)) (f y (inl refl)) ∙ ap (λ zs. y ∷ zs) (filter_all p ys (λ x k. f x (inr k)))

  pub filter_none : (p : X → Bool) (xs : List X) → ((x : X) → In x xs → p x ≡ false) → filter p xs ≡ []
  filter_none p [] f = refl
  filter_none p (y ∷ ys) f = ap (λ b. cond b (y ∷ filter p ys) (filter p ys)) (f y (inl refl)) ∙ filter_none p ys (λ x k. f x (inr k))

  -- what passes is found, be it the one or another
  pub find_there : (p : X → Bool) (xs : List X) (x : X) → In x xs → p x ≡ true → (y : X) × (find p xs ≡ Some y)
  find_there p [] x h t = absurd h
  find_there p (y ∷ ys) x h t = go (p y) refl h (find_there p ys x)
    where
      go : (b : Bool) → p y ≡ b → (x ≡ y) ⊎ In x ys → (In x ys → p x ≡ true → (z : X) × (find p ys ≡ Some z)) → (z : X) × (cond b (Some y) (find p ys) ≡ Some z)
      go true e k f = (y, refl)
      go false e (inl k) f = absurd (true≢false (sym t ∙ (ap p k ∙ e)))
      go false e (inr k) f = f k t

  pub any-In : (p : X → Bool) (xs : List X) (x : X) → In x xs → p x ≡ true → list_any p xs ≡ true
  any-In p [] x h t = absurd h
  any-In p (y ∷ ys) x (inl e) t = or_left (p y) (list_any p ys) (subst (λ v. p v ≡ true) e t)
  any-In p (y ∷ ys) x (inr h) t = subst (λ v. (p y || v) ≡ true) (sym (any-In p ys x h t)) (or-true (p y))

  pub any-Has : (p : X → Bool) (xs : List X) → list_any p xs ≡ true → (x : X) × In x xs × (p x ≡ true)
  any-Has p [] h = absurd (true≢false (sym h))
  any-Has p (y ∷ ys) h = go (or_cases (p y) (list_any p ys) h) (any-Has p ys)
    where
      go : (p y ≡ true) ⊎ (list_any p ys ≡ true) → (list_any p ys ≡ true → (x : X) × In x ys × (p x ≡ true)) → (x : X) × In x (y ∷ ys) × (p x ≡ true)
      go (inl t) f = (y, inl refl, t)
      go (inr t) f = let r = f t in (r.0, inr r.1, r.2)

  pub All-In : (P : X → Type 0) (xs : List X) → All P xs → (x : X) → In x xs → P x
  All-In P [] h x k = absurd k
  All-In P (y ∷ ys) h x (inl e) = subst P (sym e) (h 0 y (omega arith))
  All-In P (y ∷ ys) h x (inr k) = All-In P ys (λ j d l. h (suc j) d (omega (arith, l))) x k

  pub In-All : (P : X → Type 0) (xs : List X) → ((x : X) → In x xs → P x) → All P xs
  In-All P [] f = λ j d l. absurd (omega (arith, l))
  In-All P (y ∷ ys) f = at (In-All P ys (λ x k. f x (inr k)))
    where
      at : All P ys → (j : ℕ) (d : X) → j < length (y ∷ ys) → P (slice_index_or (y ∷ ys) j d)
      at g zero d l = f y (inl refl)
      at g (suc j) d l = g j d (omega (arith, l))

  pub all_push : (p : X → Bool) (xs : List X) (x : X) → list_all p xs ≡ true → p x ≡ true → list_all p (xs ++ x ∷ []) ≡ true
  all_push p [] x h t = and_from (p x) true t refl
  all_push p (z ∷ zs) x h t = let k : (p z ≡ true) × (list_all p zs ≡ true) = and_parts (p z) (list_all p zs) h in and_from (p z) (list_all p (zs ++ x ∷ [])) k.0 (all_push p zs x k.1 t)

  -- the test of pairs, where one more element follows
  pub pairs_push : (t : X → X → Bool) (xs : List X) (x : X) → each_pair t xs ≡ true → ((y : X) → In y xs → t y x ≡ true) → each_pair t (xs ++ x ∷ []) ≡ true
  pairs_push t [] x h f = refl
  pairs_push t (y ∷ ys) x h f =
      let k : (list_all (t y) ys ≡ true) × (each_pair t ys ≡ true) = and_parts (list_all (t y) ys) (each_pair t ys) h in
      and_from (list_all (t y) (ys ++ x ∷ [])) (each_pair t (ys ++ x ∷ [])) (all_push (t y) ys x k.0 (f y (inl refl)))
      (pairs_push t ys x k.1 (λ z m. f z (inr m)))

  -- the test of pairs holds of any two elements, in one order or the other
  pub pairs-In : (t : X → X → Bool) (xs : List X) → each_pair t xs ≡ true → (x y : X) → In x xs → In y xs → (x ≡ y) ⊎ ((t x y ≡ true) ⊎ (t y x ≡ true))
  pairs-In t [] h x y k l = absurd k
  pairs-In t (z ∷ zs) h x y (inl e) (inl f) = inl (e ∙ sym f)
  pairs-In t (z ∷ zs) h x y (inl e) (inr l) = inr (inl (subst (λ v. t v y ≡ true) (sym e) (all-In (t z) zs (and_parts (list_all (t z) zs) (each_pair t zs) h).0 y l)))
  pairs-In t (z ∷ zs) h x y (inr k) (inl f) = inr (inr (subst (λ v. t v x ≡ true) (sym f) (all-In (t z) zs (and_parts (list_all (t z) zs) (each_pair t zs) h).0 x k)))
  pairs-In t (z ∷ zs) h x y (inr k) (inr l) = pairs-In t zs (and_parts (list_all (t z) zs) (each_pair t zs) h).1 x y k l

  pub pairs_same : (t u : X → X → Bool) (xs : List X) → ((x y : X) → In x xs → In y xs → t x y ≡ true → u x y ≡ true) → each_pair t xs ≡ true → each_pair u xs ≡ true
  pairs_same t u [] f h = refl
  pairs_same t u (z ∷ zs) f h =
      let k : (list_all (t z) zs ≡ true) × (each_pair t zs ≡ true) = and_parts (list_all (t z) zs) (each_pair t zs) h in
      and_from _ _ (In-all (u z) zs (λ x m. f z x (inl refl) (inr m) (all-In (t z) zs k.0 x m))) (pairs_same t u zs (λ x y m n. f x y (inr m) (inr n)) k.1)

  all_equal : (p q : X → Bool) (xs : List X) → ((x : X) → p x ≡ q x) → list_all p xs ≡ list_all q xs
  all_equal p q [] f = refl
  all_equal p q (x ∷ xs) f = ap (λ b. b && list_all p xs) (f x) ∙ ap (λ b. q x && b) (all_equal p q xs f)

  pub pairs_equal : (t u : X → X → Bool) (xs : List X) → ((x y : X) → t x y ≡ u x y) → each_pair t xs ≡ each_pair u xs
  pairs_equal t u [] f = refl
  pairs_equal t u (x ∷ xs) f = ap (λ b. b && each_pair t xs) (all_equal (t x) (u x) xs (f x)) ∙ ap (λ b. list_all (u x) xs && b) (pairs_equal t u xs f)

  pub first-In : (xs : List X) (x : X) → first xs ≡ Some x → In x xs
  first-In [] x h = cc
  first-In (y ∷ xs) x h = inl cc

  pub get-In : (xs : List X) (n : ℕ) (x : X) → slice_get xs n ≡ Some x → In x xs
  get-In [] n x h = cc
  get-In (y ∷ ys) zero x h = inl cc
  get-In (y ∷ ys) (suc n) x h = inr (get-In ys n x h)

  pub below_there : (xs : List X) (n : ℕ) → n < length xs → is_some (slice_get xs n) ≡ true
  below_there [] n h = absurd (omega (arith, h))
  below_there (x ∷ xs) zero h = refl
  below_there (x ∷ xs) (suc n) h = below_there xs n (omega (arith, h))

  pub there_below : (xs : List X) (n : ℕ) → is_some (slice_get xs n) ≡ true → n < length xs
  there_below [] n h = absurd (true≢false (sym h))
  there_below (x ∷ xs) zero h = omega arith
  there_below (x ∷ xs) (suc n) h = let k : n < length xs = there_below xs n h in omega arith

  pub position_below : (p : X → Bool) (xs : List X) (n : ℕ) → position p xs ≡ Some n → n < length xs
  position_below p xs n h = go (nat_lt (prefix_len (λ x. not (p x)) xs) (length xs)) refl h
    where
      go : (b : Bool) → nat_lt (prefix_len (λ x. not (p x)) xs) (length xs) ≡ b → cond b (Some (prefix_len (λ x. not (p x)) xs)) None ≡ Some n → n < length xs
      go true e k = let s : prefix_len (λ x. not (p x)) xs ≡ n = cc in omega (arith, ltb-true (prefix_len (λ x. not (p x)) xs) (length xs) e, s)
      go false e k = cc

  pub numbered-In : (xs : List X) (i j n : ℕ) (x : X) → slice_get xs n ≡ Some x → j ≡ i + n → In (j, x) (numbered_from i xs)
  numbered-In [] i j n x h e = cc
  numbered-In (y ∷ ys) i j zero x h e = let k : x ≡ y = cc in let m : j ≡ i = omega (arith, e) in inl (ap (λ (p : ℕ). (p, x)) m ∙ ap (λ z. (i, z)) k)
  numbered-In (y ∷ ys) i j (suc n) x h e = inr (numbered-In ys (suc i) j n x h (omega (arith, e)))

  pub In-numbered : (xs : List X) (i : ℕ) (p : ℕ × X) → In p (numbered_from i xs) → (n : ℕ) × (slice_get xs n ≡ Some p.1) × (p.0 ≡ i + n)
  In-numbered [] i p h = absurd h
  In-numbered (y ∷ ys) i p (inl e) = (0, ap (λ (q : ℕ × X). Some q.1) (sym e), ap (λ (q : ℕ × X). q.0) e ∙ omega arith)
  In-numbered (y ∷ ys) i p (inr h) = let r = In-numbered ys (suc i) p h in (suc r.0, r.1, r.2 ∙ omega arith)

-- there is one
abbrev pub Has : {X : Type 0} → Option X → Type 0
Has {X = X} o = (x : X) × (o ≡ Some x)

module _ {X : Type 0} where
  pub some_has : (o : Option X) → is_some o ≡ true → Has o
  some_has None h = absurd (true≢false (sym h))
  some_has (Some x) h = (x, refl)

  pub none_is : (o : Option X) → is_none o ≡ true → o ≡ None
  none_is None h = refl
  none_is (Some x) h = absurd (true≢false (sym h))

  pub first_has : (xs : List X) (x : X) → In x xs → Has (first xs)
  first_has [] x h = absurd h
  first_has (y ∷ ys) x h = (y, refl)

  pub or_else_parts : (a b : Option X) → or_else a b ≡ None → (a ≡ None) × (b ≡ None)
  or_else_parts None b h = (refl, h)
  or_else_parts (Some x) b h = cc

module _ {X Y : Type 0} where
  pub map-In : (f : X → Y) (xs : List X) (x : X) → In x xs → In (f x) (map f xs)
  map-In f [] x h = absurd h
  map-In f (y ∷ ys) x (inl e) = inl (ap f e)
  map-In f (y ∷ ys) x (inr h) = inr (map-In f ys x h)

  pub flat_map-In : (f : X → List Y) (xs : List X) (x : X) (y : Y) → In x xs → In y (f x) → In y (flat_map f xs)
  flat_map-In f [] x y h k = absurd h
  flat_map-In f (z ∷ xs) x y (inl e) k = In-left (f z) (flat_map f xs) y (subst (λ v. In y (f v)) e k)
  flat_map-In f (z ∷ xs) x y (inr h) k = In-right (f z) (flat_map f xs) y (flat_map-In f xs x y h k)

  pub In-flat_map : (f : X → List Y) (xs : List X) (y : Y) → In y (flat_map f xs) → (x : X) × In x xs × In y (f x)
  In-flat_map f [] y h = absurd h
  In-flat_map f (z ∷ xs) y h = go (In-append (f z) (flat_map f xs) y h) (In-flat_map f xs y)
    where
      go : In y (f z) ⊎ In y (flat_map f xs) → (In y (flat_map f xs) → (x : X) × In x xs × In y (f x)) → (x : X) × In x (z ∷ xs) × In y (f x)
      go (inl k) g = (z, inl refl, k)
      go (inr k) g = let r = g k in (r.0, inr r.1, r.2)

  pub pairs-map : (t : Y → Y → Bool) (f : X → Y) (xs : List X) → each_pair t (map f xs) ≡ each_pair (λ x y. t (f x) (f y)) xs
  pairs-map t f [] = refl
  pairs-map t f (x ∷ xs) = ap (λ b. b && each_pair t (map f xs)) (list_all-map (t (f x)) f xs) ∙ ap (λ b. list_all (λ y. t (f x) (f y)) xs && b) (pairs-map t f xs)

  pub flat_same : (f g : X → List Y) (xs : List X) → ((x : X) → In x xs → f x ≡ g x) → flat_map f xs ≡ flat_map g xs
  flat_same f g [] h = refl
  flat_same f g (x ∷ xs) h = let a : f x ≡ g x = h x (inl refl) in let b : flat_map f xs ≡ flat_map g xs = flat_same f g xs (λ y k. h y (inr k)) in cc

  pub filter_map_same : (f g : X → Option Y) (xs : List X) → ((x : X) → In x xs → f x ≡ g x) → filter_map f xs ≡ filter_map g xs
  filter_map_same f g [] h = refl
  filter_map_same f g (x ∷ xs) h = ap (λ o. cons_option o (filter_map f xs)) (h x (inl refl)) ∙ ap (λ ys. cons_option (g x) ys) (filter_map_same f g xs (λ y k. h y (inr k)))

  pub In-map : (f : X → Y) (xs : List X) (y : Y) → In y (map f xs) → (x : X) × In x xs × (y ≡ f x)
  In-map f [] y h = absurd h
  In-map f (x ∷ xs) y (inl e) = (x, inl refl, e)
  In-map f (x ∷ xs) y (inr h) = let r : (x : X) × In x xs × (y ≡ f x) = In-map f xs y h in (r.0, inr r.1, r.2)

  pub map_same : (f g : X → Y) (xs : List X) → ((x : X) → In x xs → f x ≡ g x) → map f xs ≡ map g xs
  map_same f g [] h = refl
  map_same f g (x ∷ xs) h = let a : f x ≡ g x = h x (inl refl) in let b : map f xs ≡ map g xs = map_same f g xs (λ y k. h y (inr k)) in cc

  pub fold_same : (f g : Y → X → Y) (y : Y) (xs : List X) → ((y : Y) (x : X) → In x xs → f y x ≡ g y x) → fold f y xs ≡ fold g y xs
  fold_same f g y [] h = refl
  fold_same f g y (x ∷ xs) h = subst (λ z. fold f (f y x) xs ≡ fold g z xs) (h y x (inl refl)) (fold_same f g (f y x) xs (λ z w k. h z w (inr k)))
