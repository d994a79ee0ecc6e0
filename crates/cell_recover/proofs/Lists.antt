-- Lists of borrowed cells, as a loop goes along them.
use Rattle.std.proofs.Common.{◌≡◌, refl, sym, ◌∙◌, ap, subst, arith, ℕ, zero, suc, ◌+◌, ◌<◌, ◌≤◌, inl, inr, Bor, Bool, true, false, cond, List, [], ◌∷◌, ◌++◌, map, take, length, get_or, Option, None, Some}
use Rattle.std.specs.Prelude.{All, filter, find}
use Rattle.cell_num.specs.Lists.{In}
use Rattle.cell_num.proofs.Elements.{All-In}

in_get : {X : Type 0} (xs : List X) (i : ℕ) (d : X) → i < length xs → In (get_or xs i d) xs
in_get [] i d lt = absurd (omega (arith, lt))
in_get (x ∷ xs) zero d lt = inl refl
in_get (x ∷ xs) (suc i) d lt = inr (in_get xs i d (omega (arith, lt)))

pub all_at : {X : Type 0} (P : X → Type 0) (xs : List X) → All P xs → (i : ℕ) → i < length xs → (r : X) → r ≡ get_or xs i r → P r
all_at P xs all i lt r at = subst P (sym at) (All-In P xs all (get_or xs i r) (in_get xs i r lt))

-- what is found at a place is one thing
pub same_at : {X : Type 0} (xs : List X) (i : ℕ) → i < length xs → (r s : X) → r ≡ get_or xs i r → s ≡ get_or xs i s → r ≡ s
same_at [] i lt r s a b = absurd (omega (arith, lt))
same_at (x ∷ xs) zero lt r s a b = a ∙ sym b
same_at (x ∷ xs) (suc i) lt r s a b = same_at xs i (omega (arith, lt)) r s a b

take_all : {X : Type 0} (xs : List X) (i : ℕ) → length xs ≤ i → take i xs ≡ xs
take_all [] zero le = refl
take_all [] (suc i) le = refl
take_all (x ∷ xs) zero le = absurd (omega (arith, le))
take_all {X} (x ∷ xs) (suc i) le = ap (λ (ys : List X). x ∷ ys) (take_all xs i (omega (arith, le)))

one_more : (i : ℕ) → suc i + 1 ≡ suc (i + 1)
one_more i = omega arith

module _ {X : Type 0} (f : X → Bool) where
  -- none of so many
  abbrev none_of : ℕ → List (Bor X) → Type 0
  none_of i xs = find f (map (λ x. x.now) (take i xs)) ≡ None

  not_here : (x : X) (rest : Option X) → cond (f x) (Some x) rest ≡ None → (f x ≡ false) × (rest ≡ None)
  not_here x rest e = go (f x) refl e
    where
      some_none : Some x ≡ None → ⊥
      some_none k = cc

      go : (b : Bool) → f x ≡ b → cond b (Some x) rest ≡ None → (f x ≡ false) × (rest ≡ None)
      go true g k = absurd (some_none k)
      go false g k = (g, k)

  pub none_more : (xs : List (Bor X)) (i : ℕ) → i < length xs → (r : Bor X) → r ≡ get_or xs i r → none_of i xs → f r.now ≡ false → none_of (i + 1) xs
  none_more [] i lt r at none out = absurd (omega (arith, lt))
  none_more (x ∷ xs) zero lt r at none out =
      ap (λ (b : Bool). cond b (Some x.now) (let o : Option X = None in o)) (ap (λ (y : Bor X). f y.now) (sym at) ∙ out)
  none_more (x ∷ xs) (suc i) lt r at none out =
      let p = not_here x.now (find f (map (λ y. y.now) (take i xs))) none in
      ap (λ (n : ℕ). find f (map (λ y. y.now) (take n (x ∷ xs)))) (one_more i)
      ∙ (ap (λ (b : Bool). cond b (Some x.now) (find f (map (λ y. y.now) (take (i + 1) xs)))) p.0 ∙ none_more xs i (omega (arith, lt)) r at p.1 out)

  pub found_here : (xs : List (Bor X)) (i : ℕ) → i < length xs → (r : Bor X) → r ≡ get_or xs i r → none_of i xs → f r.now ≡ true → Some r.now ≡ find f (map (λ x. x.now) xs)
  found_here [] i lt r at none hit = absurd (omega (arith, lt))
  found_here (x ∷ xs) zero lt r at none hit =
      ap (λ (y : Bor X). let o : Option X = Some y.now in o) at
      ∙ sym (ap (λ (b : Bool). cond b (Some x.now) (find f (map (λ y. y.now) xs))) (ap (λ (y : Bor X). f y.now) (sym at) ∙ hit))
  found_here (x ∷ xs) (suc i) lt r at none hit =
      let p = not_here x.now (find f (map (λ y. y.now) (take i xs))) none in
      found_here xs i (omega (arith, lt)) r at p.1 hit ∙ sym (ap (λ (b : Bool). cond b (Some x.now) (find f (map (λ y. y.now) xs))) p.0)

  pub none_at_all : (xs : List (Bor X)) (i : ℕ) → length xs ≤ i → none_of i xs → None ≡ find f (map (λ x. x.now) xs)
  none_at_all xs i le none = sym none ∙ ap (λ (ys : List (Bor X)). find f (map (λ x. x.now) ys)) (take_all xs i le)

  -- the picked ones of so many
  abbrev picked : ℕ → List (Bor X) → List X
  picked i xs = filter f (map (λ x. x.now) (take i xs))

  more_picked : (xs : List (Bor X)) (i : ℕ) → i < length xs → (r : Bor X) → r ≡ get_or xs i r → picked (i + 1) xs ≡ picked i xs ++ filter f (r.now ∷ [])
  more_picked [] i lt r at = absurd (omega (arith, lt))
  more_picked (x ∷ xs) zero lt r at = ap (λ (y : Bor X). filter f (y.now ∷ [])) (sym at)
  more_picked (x ∷ xs) (suc i) lt r at = ap (λ (n : ℕ). picked n (x ∷ xs)) (one_more i) ∙ go (f x.now) (more_picked xs i (omega (arith, lt)) r at)
    where
      go : (b : Bool) → picked (i + 1) xs ≡ picked i xs ++ filter f (r.now ∷ []) → cond b (x.now ∷ picked (i + 1) xs) (picked (i + 1) xs) ≡ cond b (x.now ∷ picked i xs) (picked i xs) ++ filter f (r.now ∷ [])
      go true e = ap (λ (ys : List X). x.now ∷ ys) e
      go false e = e

  pub picked_more : (xs : List (Bor X)) (i : ℕ) → i < length xs → (r : Bor X) → r ≡ get_or xs i r → (old new : List X) → old ≡ picked i xs → new ≡ old ++ filter f (r.now ∷ []) → new ≡ picked (i + 1) xs
  picked_more xs i lt r at old new so_far more = more ∙ (ap (λ (ys : List X). ys ++ filter f (r.now ∷ [])) so_far ∙ sym (more_picked xs i lt r at))

  pub all_picked : (xs : List (Bor X)) (i : ℕ) → length xs ≤ i → (items : List X) → items ≡ picked i xs → items ≡ filter f (map (λ x. x.now) xs)
  all_picked xs i le items so_far = so_far ∙ ap (λ (ys : List (Bor X)). filter f (map (λ x. x.now) ys)) (take_all xs i le)
