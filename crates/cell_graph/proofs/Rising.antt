-- Lists in order.
use Rattle.std.proofs.Common.{◌≡◌, ◌≢◌, ◌⊎◌, inl, inr, ℕ, zero, suc, ◌<◌, Bool, true, false, List, [], ◌∷◌, length, get_or, map, refl, sym, ap, subst, ◌∙◌, arith, Contains}
use Rattle.std.specs.List.{AllByRecursion, insert, remove}
use Rattle.slab.proofs.SlabLemmas.{Contains-cons, Contains-cons_cases}
use Rattle.std.proofs.lemmas.Bool.{false≢true}
use Rattle.cell_graph.specs.Order.{IsCut, Rises}

module _ {X : Type 0} where
  pub no_element : (x : X) → Contains [] x → ⊥
  no_element x has = absurd (omega (arith, has.1))

  pub Contains-head : (x : X) (xs : List X) → Contains (x ∷ xs) x
  Contains-head x xs = (0, omega arith, refl)

  -- what holds of all holds of an element
  pub all_at : (P : X → Type 0) (xs : List X) (x : X) → AllByRecursion P xs → Contains xs x → P x
  all_at P [] x all has = absurd (no_element x has)
  all_at P (y ∷ xs) x all has = elim (Contains-cons_cases y x xs has) [ inl here ↦ subst P here all.0 | inr later ↦ all_at P xs x all.1 later ]

  pub all_from : (P : X → Type 0) (xs : List X) → ((x : X) → Contains xs x → P x) → AllByRecursion P xs
  all_from P [] each = tt
  all_from P (x ∷ xs) each = (each x (Contains-head x xs), all_from P xs (λ y has. each y (Contains-cons x y xs has)))

  -- an element of an insert is the new one or an old one
  pub of_insert : (xs : List X) (n : ℕ) (y x : X) → Contains (insert xs n y) x → (y ≡ x) ⊎ Contains xs x
  of_insert xs zero y x has = Contains-cons_cases y x xs has
  of_insert [] (suc n) y x has = Contains-cons_cases y x [] has
  of_insert (z ∷ xs) (suc n) y x has =
      elim (Contains-cons_cases z x (insert xs n y) has) [
        | inl here ↦ inr (subst (λ w. Contains (z ∷ xs) w) here (Contains-head z xs))
        | inr later ↦ elim (of_insert xs n y x later) [ inl new ↦ inl new | inr old ↦ inr (Contains-cons z x xs old) ]
      ]

  pub in_insert_new : (xs : List X) (n : ℕ) (y : X) → Contains (insert xs n y) y
  in_insert_new xs zero y = Contains-head y xs
  in_insert_new [] (suc n) y = Contains-head y []
  in_insert_new (z ∷ xs) (suc n) y = Contains-cons z y (insert xs n y) (in_insert_new xs n y)

  pub in_insert : (xs : List X) (n : ℕ) (y x : X) → Contains xs x → Contains (insert xs n y) x
  in_insert xs zero y x has = Contains-cons y x xs has
  in_insert [] (suc n) y x has = absurd (no_element x has)
  in_insert (z ∷ xs) (suc n) y x has =
      elim (Contains-cons_cases z x xs has) [
        | inl here ↦ subst (λ w. Contains (z ∷ insert xs n y) w) here (Contains-head z (insert xs n y))
        | inr later ↦ Contains-cons z x (insert xs n y) (in_insert xs n y x later)
      ]

  pub of_remove : (xs : List X) (n : ℕ) (x : X) → Contains (remove xs n) x → Contains xs x
  of_remove [] zero x has = has
  of_remove [] (suc n) x has = has
  of_remove (z ∷ xs) zero x has = Contains-cons z x xs has
  of_remove (z ∷ xs) (suc n) x has =
      elim (Contains-cons_cases z x (remove xs n) has) [
        | inl here ↦ subst (λ w. Contains (z ∷ xs) w) here (Contains-head z xs)
        | inr later ↦ Contains-cons z x xs (of_remove xs n x later)
      ]

  -- an element that isn't the one removed is left
  pub in_remove : (xs : List X) (n : ℕ) (d x : X) → get_or xs n d ≢ x → Contains xs x → Contains (remove xs n) x
  in_remove [] n d x other has = absurd (no_element x has)
  in_remove (z ∷ xs) zero d x other has = elim (Contains-cons_cases z x xs has) [ inl here ↦ absurd (other here) | inr later ↦ later ]
  in_remove (z ∷ xs) (suc n) d x other has =
      elim (Contains-cons_cases z x xs has) [
        | inl here ↦ subst (λ w. Contains (z ∷ remove xs n) w) here (Contains-head z (remove xs n))
        | inr later ↦ Contains-cons z x (remove xs n) (in_remove xs n d x other later)
      ]

  pub at_index : (xs : List X) (n : ℕ) (d : X) → n < length xs → Contains xs (get_or xs n d)
  at_index [] n d within = absurd (omega arith)
  at_index (x ∷ xs) zero d within = Contains-head x xs
  at_index (x ∷ xs) (suc n) d within = Contains-cons x (get_or xs n d) xs (at_index xs n d (omega arith))

module _ {X Y : Type 0} (f : X → Y) where
  -- an element of a map comes from one
  pub of_map : (xs : List X) (y : Y) → Contains (map f xs) y → (x : X) × Contains xs x × (f x ≡ y)
  of_map [] y has = absurd (no_element y has)
  of_map (x ∷ xs) y has =
      elim (Contains-cons_cases (f x) y (map f xs) has) [
        | inl here ↦ (x, Contains-head x xs, here)
        | inr later ↦ let w = of_map xs y later in (w.0, Contains-cons x w.0 xs w.1, w.2)
      ]

  pub in_map : (xs : List X) (x : X) → Contains xs x → Contains (map f xs) (f x)
  in_map [] x has = absurd (no_element x has)
  in_map (z ∷ xs) x has =
      elim (Contains-cons_cases z x xs has) [
        | inl here ↦ subst (λ w. Contains (map f (z ∷ xs)) w) (ap f here) (Contains-head (f z) (map f xs))
        | inr later ↦ Contains-cons (f z) (f x) (map f xs) (in_map xs x later)
      ]

  pub map_same : (g : X → Y) (xs : List X) → ((x : X) → Contains xs x → f x ≡ g x) → map f xs ≡ map g xs
  map_same g [] same = refl
  map_same g (x ∷ xs) same = λ i. same x (Contains-head x xs) i ∷ map_same g xs (λ y has. same y (Contains-cons x y xs has)) i

module _ {X : Type 0} (lt : X → X → Bool) where
  -- the cut before an element is where it stands
  pub at_cut : ((x : X) → lt x x ≡ false) → (xs : List X) (n : ℕ) (y : X) → Rises lt xs → IsCut (λ x. lt x y) xs n → Contains xs y
      → (n < length xs) × ((d : X) → get_or xs n d ≡ y)
  at_cut irreflexive [] n y rises cut has = absurd (no_element y has)
  at_cut irreflexive (x ∷ xs) zero y rises cut has =
      elim (Contains-cons_cases x y xs has) [
        | inl here ↦ (omega arith, λ d. here)
        | inr later ↦ absurd (false≢true (sym cut.0 ∙ all_at (λ z. lt x z ≡ true) xs y rises.0 later))
      ]
  at_cut irreflexive (x ∷ xs) (suc n) y rises cut has =
      elim (Contains-cons_cases x y xs has) [
        | inl here ↦ absurd (false≢true (sym (irreflexive y) ∙ ap (λ z. lt z y) (sym here) ∙ cut.0))
        | inr later ↦ let w = at_cut irreflexive xs n y rises.1 cut.1 later in (omega (arith, w.0), w.1)
      ]

  pub rises_insert : (xs : List X) (n : ℕ) (y : X) → ((x z : X) → lt y x ≡ true → lt x z ≡ true → lt y z ≡ true) → Rises lt xs → IsCut (λ x. lt x y) xs n
      → ((x : X) → Contains xs x → lt x y ≡ false → lt y x ≡ true) → Rises lt (insert xs n y)
  rises_insert [] zero y trans rises cut other = (tt, tt)
  rises_insert [] (suc n) y trans rises cut other = (tt, tt)
  rises_insert (x ∷ xs) zero y trans rises cut other =
      let first = other x (Contains-head x xs) cut.0 in
      ((first, all_from (λ z. lt y z ≡ true) xs (λ z has. trans x z first (all_at (λ w. lt x w ≡ true) xs z rises.0 has))), rises)
  rises_insert (x ∷ xs) (suc n) y trans rises cut other = (
    all_from (λ z. lt x z ≡ true) (insert xs n y) (λ z has. elim (of_insert xs n y z has) [
      | inl new ↦ subst (λ w. lt x w ≡ true) new cut.0
      | inr old ↦ all_at (λ w. lt x w ≡ true) xs z rises.0 old
    ]),
    rises_insert xs n y trans rises.1 cut.1 (λ z has. other z (Contains-cons x z xs has)),
  )

  pub rises_remove : (xs : List X) (n : ℕ) → Rises lt xs → Rises lt (remove xs n)
  rises_remove [] zero rises = tt
  rises_remove [] (suc n) rises = tt
  rises_remove (x ∷ xs) zero rises = rises.1
  rises_remove (x ∷ xs) (suc n) rises =
      (all_from (λ z. lt x z ≡ true) (remove xs n) (λ z has. all_at (λ w. lt x w ≡ true) xs z rises.0 (of_remove xs n z has)), rises_remove xs n rises.1)

  -- two elements are one, or one is below the other
  pub apart_or_same : (xs : List X) (x y : X) → Rises lt xs → Contains xs x → Contains xs y → (x ≡ y) ⊎ ((lt x y ≡ true) ⊎ (lt y x ≡ true))
  apart_or_same [] x y rises a b = absurd (no_element x a)
  apart_or_same (z ∷ xs) x y rises a b =
      elim (Contains-cons_cases z x xs a) [
        | inl x_here ↦ elim (Contains-cons_cases z y xs b) [
          | inl y_here ↦ inl (sym x_here ∙ y_here)
          | inr y_later ↦ inr (inl (subst (λ w. lt w y ≡ true) x_here (all_at (λ w. lt z w ≡ true) xs y rises.0 y_later)))
        ]
        | inr x_later ↦ elim (Contains-cons_cases z y xs b) [
          | inl y_here ↦ inr (inr (subst (λ w. lt w x ≡ true) y_here (all_at (λ w. lt z w ≡ true) xs x rises.0 x_later)))
          | inr y_later ↦ apart_or_same xs x y rises.1 x_later y_later
        ]
      ]
