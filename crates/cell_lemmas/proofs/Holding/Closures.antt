-- The closure of a list is exactly what paths inside the list reach.
use Rattle.std.proofs.Common.{◌≡◌, refl, sym, ap, subst, arith, ℕ, zero, suc, ◌+◌, ◌≤◌, ◌<◌, ◌⊎◌, inl, inr, Bool, true, false, cond, List, [], ◌∷◌, ◌++◌, length, true≢false}
use Rattle.std.specs.Prelude.{filter}
use Rattle.std.specs.List.{list_any}
use Rattle.std.proofs.lemmas.Bool.{cases_lt}
use Rattle.cell_world.specs.Closure.{more, after_steps, closure}
use Rattle.cell_num.specs.Lists.{In}
use Rattle.cell_num.proofs.Elements.{any-In, any-Has, filter-In, In-filtered, filter-Passes}
use Rattle.cell_num.proofs.Sublists.{length-filter_le}

module _ {X : Type 0} where
  -- p implies q on the list
  abbrev Implies : (X → Bool) → (X → Bool) → List X → Type 0
  Implies p q xs = (x : X) → In x xs → p x ≡ true → q x ≡ true

  abbrev Grown : (X → Bool) → (X → Bool) → List X → Type 0
  Grown p q xs = (length (filter p xs) ≤ length (filter q xs)) × (length (filter q xs) ≤ length (filter p xs) → filter p xs ≡ filter q xs)

  grown_cons : (p q : X → Bool) (x : X) (xs : List X) (a b : Bool) → (a ≡ true → b ≡ true) → Grown p q xs
      → (length (cond a (x ∷ filter p xs) (filter p xs)) ≤ length (cond b (x ∷ filter q xs) (filter q xs)))
      × (length (cond b (x ∷ filter q xs) (filter q xs)) ≤ length (cond a (x ∷ filter p xs) (filter p xs)) → cond a (x ∷ filter p xs) (filter p xs) ≡ cond b (x ∷ filter q xs) (filter q xs))
  grown_cons p q x xs true true i t = (omega (arith, t.0), λ h. ap (λ ys. x ∷ ys) (t.1 (omega (arith, h))))
  grown_cons p q x xs true false i t = absurd (true≢false (sym (i refl)))
  grown_cons p q x xs false true i t = (omega (arith, t.0), λ h. absurd (omega (arith, h, t.0)))
  grown_cons p q x xs false false i t = t

  -- a weaker test passes as many, and the same ones where it passes no more
  filter_grown : (p q : X → Bool) (xs : List X) → Implies p q xs → Grown p q xs
  filter_grown p q [] i = (omega arith, λ h. refl)
  filter_grown p q (x ∷ xs) i = grown_cons p q x xs (p x) (q x) (i x (inl refl)) (filter_grown p q xs (λ y h. i y (inr h)))

module _ {X : Type 0} (leads : X → X → Bool) (all : List X) where
  -- a path inside the list, from a to last
  abbrev pub Path : X → List X → X → Type 0
  Path a [] last = a ≡ last
  Path a (b ∷ path) last = In b all × (leads a b ≡ true) × Path b path last

  path_on : (a : X) (path : List X) (b c : X) → Path a path b → In c all → leads b c ≡ true → Path a (path ++ c ∷ []) c
  path_on a [] b c r h t = (h, subst (λ x. leads x c ≡ true) (sym r) t, refl)
  path_on a (d ∷ path) b c r h t = (r.0, r.1, path_on d path b c r.2 h t)

  -- what a path reaches from an element that passes the test
  abbrev pub IsReached : (X → Bool) → X → Type 0
  IsReached from c = (start : X) × (path : List X) × In start all × (from start ≡ true) × Path start path c

module _ {X : Type 0} (leads : X → X → Bool) (all : List X) (itself : (x : X) → leads x x ≡ true) where
  -- what passes the test is reached from what passes it
  implies_reached : (p : X → Bool) (x : X) → In x all → p x ≡ true → list_any (λ a. leads a x) (filter p all) ≡ true
  implies_reached p x h t = any-In (λ a. leads a x) (filter p all) x (filter-In p all x h t) (itself x)

  more_grown : (p : X → Bool) → (length (filter p all) ≤ length (more leads all (filter p all))) × (length (more leads all (filter p all)) ≤ length (filter p all) → filter p all ≡ more leads all (filter p all))
  more_grown p = filter_grown p (λ b. list_any (λ a. leads a b) (filter p all)) all (implies_reached p)

  fixed : (n : ℕ) (xs : List X) → xs ≡ more leads all xs → after_steps leads all n xs ≡ xs
  fixed zero xs e = refl
  fixed (suc n) xs e = subst (λ ys. after_steps leads all n ys ≡ xs) e (fixed n xs e)

  -- after as many steps as there are elements nothing more is reached
  settled : (n : ℕ) (p : X → Bool) → length all ≤ n + length (filter p all)
      → more leads all (after_steps leads all n (filter p all)) ≡ after_steps leads all n (filter p all)
  settled zero p h =
      sym ((more_grown p).1 (omega (arith, h, length-filter_le (λ b. list_any (λ a. leads a b) (filter p all)) all)))
  settled (suc n) p h = go (cases_lt (length (filter p all)) (length (more leads all (filter p all)))) (settled n (λ b. list_any (λ a. leads a b) (filter p all)))
    where
      go : (length (filter p all) < length (more leads all (filter p all))) ⊎ (length (more leads all (filter p all)) ≤ length (filter p all))
          → (length all ≤ n + length (more leads all (filter p all)) → more leads all (after_steps leads all n (more leads all (filter p all))) ≡ after_steps leads all n (more leads all (filter p all)))
          → more leads all (after_steps leads all n (more leads all (filter p all))) ≡ after_steps leads all n (more leads all (filter p all))
      go (inl l) ih = ih (omega (arith, h, l))
      go (inr l) ih =
          let e : filter p all ≡ more leads all (filter p all) = (more_grown p).1 l in
          let f : after_steps leads all n (filter p all) ≡ filter p all = fixed n (filter p all) e in
          subst (λ ys. more leads all (after_steps leads all n ys) ≡ after_steps leads all n ys) e (subst (λ ys. more leads all ys ≡ ys) (sym f) (sym e))

  stays : (xs : List X) (x : X) → In x all → In x xs → In x (more leads all xs)
  stays xs x h k = filter-In (λ b. list_any (λ a. leads a b) xs) all x h (any-In (λ a. leads a x) xs x k (itself x))

  stays_on : (n : ℕ) (xs : List X) (x : X) → In x all → In x xs → In x (after_steps leads all n xs)
  stays_on zero xs x h k = k
  stays_on (suc n) xs x h k = stays_on n (more leads all xs) x h (stays xs x h k)

  along : (xs : List X) → more leads all xs ≡ xs → (a : X) (path : List X) (last : X) → In a xs → Path leads all a path last → In last xs
  along xs e a [] last h r = subst (λ x. In x xs) r h
  along xs e a (b ∷ path) last h r =
      along xs e b path last
      (subst (λ ys. In b ys) e (filter-In (λ c. list_any (λ d. leads d c) xs) all b r.0 (any-In (λ d. leads d b) xs a h r.1)))
      r.2

  -- what a path reaches from an element that passes the test is in the closure
  pub closure_complete : (from : X → Bool) (start : X) (path : List X) (last : X) → In start all → from start ≡ true → Path leads all start path last → In last (closure leads all from)
  closure_complete from start path last h t r =
      along (closure leads all from) (settled (length all) from (omega arith)) start path last
      (stays_on (length all) (filter from all) start h (filter-In from all start h t)) r

  sound_more : (from : X → Bool) (xs : List X) → ((x : X) → In x xs → IsReached leads all from x) → (x : X) → In x (more leads all xs) → IsReached leads all from x
  sound_more from xs s x h =
      let y : (a : X) × In a xs × (leads a x ≡ true) = any-Has (λ a. leads a x) xs (filter-Passes (λ b. list_any (λ a. leads a b) xs) all x h) in
      let r : IsReached leads all from y.0 = s y.0 y.1 in
      (r.0, r.1 ++ x ∷ [], r.2, r.3, path_on leads all r.0 r.1 y.0 x r.4 (In-filtered (λ b. list_any (λ a. leads a b) xs) all x h) y.2)

  sound_steps : (from : X → Bool) (n : ℕ) (xs : List X) → ((x : X) → In x xs → IsReached leads all from x) → (x : X) → In x (after_steps leads all n xs) → IsReached leads all from x
  sound_steps from zero xs s x h = s x h
  sound_steps from (suc n) xs s x h = sound_steps from n (more leads all xs) (sound_more from xs s) x h

  -- and nothing else is
  pub closure_sound : (from : X → Bool) (x : X) → In x (closure leads all from) → IsReached leads all from x
  closure_sound from x h = sound_steps from (length all) (filter from all) begin x h
    where
      begin : (y : X) → In y (filter from all) → IsReached leads all from y
      begin y k = (y, [], In-filtered from all y k, filter-Passes from all y k, refl)

-- after any number of steps from a part of the list, what there is is a part of the list in its order
pub steps_part : {X : Type 0} (leads : X → X → Bool) (all : List X) (n : ℕ) (p : X → Bool) → (q : X → Bool) × (after_steps leads all n (filter p all) ≡ filter q all)
steps_part leads all zero p = (p, refl)
steps_part leads all (suc n) p = steps_part leads all n (λ b. list_any (λ a. leads a b) (filter p all))
