-- Elements that rise have one order.
use Rattle.std.proofs.Common.{◌≡◌, refl, sym, ◌∙◌, ap, ap₂, subst, arith, ℕ, suc, ◌+◌, ◌<◌, ◌⊎◌, inl, inr, Bool, true, false, cond, List, [], ◌∷◌}
use Rattle.std.specs.Prelude.{slice_index_or}
use Rattle.std.specs.List.{list_all, sum_by}
use Rattle.std.specs.List.Sorted.{IsPermutation, IsSortedBy}
use Rattle.std.specs.Cmp.{IsStrictWeakOrder}
use Rattle.std.proofs.lemmas.Bool.{and_parts}
use Rattle.std.proofs.lemmas.List.Recursion.{is_sum_by}
use Rattle.std.proofs.lemmas.List.Sorted.{All-permutation, sum_by-IsPermutation}
use Rattle.cell_num.specs.Lists.{each_pair, In}
use Rattle.cell_num.proofs.Elements.{all-In, All-In, In-All, pairs-In}

abbrev one_if : Bool → ℕ
one_if b = cond b 1 0

-- how many elements pass
abbrev counted : {X : Type 0} → (X → Bool) → List X → ℕ
counted test [] = 0
counted test (x ∷ xs) = one_if (test x) + counted test xs

abbrev HaveSameCounts : {X : Type 0} → List X → List X → Type 0
HaveSameCounts {X = X} xs ys = (test : X → Bool) → counted test ys ≡ counted test xs

counted_none : {X : Type 0} (test : X → Bool) (xs : List X) → ((x : X) → In x xs → test x ≡ false) → counted test xs ≡ 0
counted_none test [] none = refl
counted_none test (x ∷ xs) none =
    let here : one_if (test x) ≡ 0 = ap one_if (none x (inl refl)) in
    omega (arith, here, counted_none test xs (λ y i. none y (inr i)))

counted_one : {X : Type 0} (test : X → Bool) (x : X) (xs : List X) → test x ≡ true → 0 < counted test (x ∷ xs)
counted_one test x xs passes = let here : one_if (test x) ≡ 1 = ap one_if passes in omega (arith, here)

moved_counts : {X : Type 0} (xs ys : List X) → IsPermutation xs ys → HaveSameCounts xs ys
moved_counts {X = X} xs ys moved test =
    total ys ∙ (sum_by-IsPermutation (λ x. one_if (test x)) xs ys moved ∙ sym (total xs))
  where
    total : (zs : List X) → counted test zs ≡ sum_by (λ x. one_if (test x)) zs
    total zs = is_sum_by (counted test) (λ x. one_if (test x)) refl (λ x xs. refl) zs

module _ {X : Type 0} (lt : X → X → Bool) (order : IsStrictWeakOrder lt) where
  not_before_itself : (x : X) → lt x x ≡ false
  not_before_itself x = go (lt x x) refl
    where
      go : (b : Bool) → lt x x ≡ b → lt x x ≡ false
      go true e = order.one_way x x e
      go false e = e

  rest_sorted : (x : X) (xs : List X) → IsSortedBy lt (x ∷ xs) → IsSortedBy lt xs
  rest_sorted x xs up k d low high =
      let next : suc k + 1 ≡ suc (k + 1) = omega arith in
      subst (λ (n : ℕ). lt (slice_index_or (x ∷ xs) n d) (slice_index_or xs k d) ≡ false) next (up (suc k) d (omega arith) (omega (arith, high)))

  -- the first is least
  first_least : (x : X) (xs : List X) → IsSortedBy lt (x ∷ xs) → (y : X) → In y xs → lt y x ≡ false
  first_least x [] up y i = absurd i
  first_least x (z ∷ xs) up y i = go i (up 0 x (omega arith) (omega arith)) (first_least z xs (rest_sorted x (z ∷ xs) up) y)
    where
      go : (y ≡ z) ⊎ In y xs → lt z x ≡ false → (In y xs → lt y z ≡ false) → lt y x ≡ false
      go (inl same) below rest = subst (λ (v : X). lt v x ≡ false) (sym same) below
      go (inr i) below rest = order.chain y z x (rest i) below

  module _ (all : List X) (rise : each_pair lt all ≡ true) where
    same_first : (x y : X) (xs ys : List X) → each_pair lt (x ∷ xs) ≡ true → IsSortedBy lt (y ∷ ys) → HaveSameCounts (x ∷ xs) (y ∷ ys) → In x all → In y all → y ≡ x
    same_first x y xs ys up sorted counts i j = go (pairs-In lt all rise y x j i)
      where
        before_none : lt y x ≡ true → counted (λ z. lt z x) (x ∷ xs) ≡ 0
        before_none before = counted_none (λ z. lt z x) (x ∷ xs) none
          where
            none : (z : X) → In z (x ∷ xs) → lt z x ≡ false
            none z (inl same) = subst (λ (v : X). lt v x ≡ false) (sym same) (not_before_itself x)
            none z (inr k) = order.one_way x z (all-In (lt x) xs (and_parts (list_all (lt x) xs) (each_pair lt xs) up).0 z k)

        after_none : counted (λ z. lt z y) (y ∷ ys) ≡ 0
        after_none = counted_none (λ z. lt z y) (y ∷ ys) none
          where
            none : (z : X) → In z (y ∷ ys) → lt z y ≡ false
            none z (inl same) = subst (λ (v : X). lt v y ≡ false) (sym same) (not_before_itself y)
            none z (inr k) = first_least y ys sorted z k

        go : (y ≡ x) ⊎ ((lt y x ≡ true) ⊎ (lt x y ≡ true)) → y ≡ x
        go (inl same) = same
        go (inr (inl before)) = absurd (omega (arith, before_none before, counts (λ z. lt z x), counted_one (λ z. lt z x) y ys before))
        go (inr (inr before)) = absurd (omega (arith, after_none, counts (λ z. lt z y), counted_one (λ z. lt z y) x xs before))

    sorted_same : (xs ys : List X) → each_pair lt xs ≡ true → IsSortedBy lt ys → HaveSameCounts xs ys → ((x : X) → In x xs → In x all) → ((y : X) → In y ys → In y all) → ys ≡ xs
    sorted_same [] [] up sorted counts of_xs of_ys = refl
    sorted_same [] (y ∷ ys) up sorted counts of_xs of_ys = absurd (omega (arith, counts (λ z. true)))
    sorted_same (x ∷ xs) [] up sorted counts of_xs of_ys = absurd (omega (arith, counts (λ z. true)))
    sorted_same (x ∷ xs) (y ∷ ys) up sorted counts of_xs of_ys =
        let same : y ≡ x = same_first x y xs ys up sorted counts (of_xs x (inl refl)) (of_ys y (inl refl)) in
        ap₂ (λ (z : X) (zs : List X). z ∷ zs) same
        (sorted_same xs ys (and_parts (list_all (lt x) xs) (each_pair lt xs) up).1 (rest_sorted y ys sorted)
        (λ test. let here : one_if (test y) ≡ one_if (test x) = ap (λ (z : X). one_if (test z)) same in omega (arith, here, counts test))
        (λ z i. of_xs z (inr i)) (λ z i. of_ys z (inr i)))

  -- what rises is what any order of it comes to by sorting
  pub one_order : (xs ys : List X) → each_pair lt xs ≡ true → IsPermutation xs ys → IsSortedBy lt ys → ys ≡ xs
  one_order xs ys rise moved sorted =
      sorted_same xs rise xs ys rise sorted (moved_counts xs ys moved) (λ x i. i)
      (All-In (λ (x : X). In x xs) ys (All-permutation (λ (x : X). In x xs) xs ys moved (In-All (λ (x : X). In x xs) xs (λ x i. i))))
