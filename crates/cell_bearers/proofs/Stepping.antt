-- What is left of lists that are gone through and joined.
use Rattle.std.proofs.Common.{◌≡◌, refl, sym, ◌∙◌, ap, ℕ, ◌+◌, ◌<◌, ◌≤◌, List, [], ◌∷◌, ◌++◌, length, get_or, drop, map, add-one, append-nil, append_assoc}
use Rattle.std.specs.Prelude.{Option, Some, None, filter_map, flat_map}
use Rattle.std.specs.List.{cons_option}
use Rattle.std.proofs.lemmas.List.{drop_all}
use Rattle.cell_num.specs.Lists.{numbered_from}
use Rattle.cell_bearers.proofs.Reading.{begins}

cons_append : {Y : Type 0} (o : Option Y) (ys : List Y) → cons_option o [] ++ ys ≡ cons_option o ys
cons_append None ys = refl
cons_append (Some y) ys = refl

module _ {Y : Type 0} (all old new : List Y) where
  -- one more part
  joined : (part rest left : List Y) → new ≡ old ++ part → left ≡ part ++ rest → old ++ left ≡ all → new ++ rest ≡ all
  joined part rest left added is e =
      ap (λ (ys : List Y). ys ++ rest) added ∙ (append_assoc old part rest ∙ (ap (λ (ys : List Y). old ++ ys) (sym is) ∙ e))

  module _ {X : Type 0} (read xs : List X) (same : read ≡ xs) (i : ℕ) (x : X) (lt : i < length read) (here : x ≡ get_or read i x) where
    pub numbered_more : (f : ℕ × X → Option Y) → new ≡ old ++ cons_option (f (i, x)) []
        → old ++ filter_map f (numbered_from i (drop i xs)) ≡ all → new ++ filter_map f (numbered_from (i + 1) (drop (i + 1) xs)) ≡ all
    numbered_more f added e =
        joined (cons_option (f (i, x)) []) (filter_map f (numbered_from (i + 1) (drop (i + 1) xs))) (filter_map f (numbered_from i (drop i xs))) added
        (ap (λ (ys : List X). filter_map f (numbered_from i ys)) (begins read xs same i x lt here)
        ∙ (ap (λ (n : ℕ). cons_option (f (i, x)) (filter_map f (numbered_from n (drop (i + 1) xs)))) (sym (add-one i))
        ∙ sym (cons_append (f (i, x)) (filter_map f (numbered_from (i + 1) (drop (i + 1) xs)))))) e

    pub mapped_more : (f : ℕ × X → Y) → new ≡ old ++ f (i, x) ∷ []
        → old ++ map f (numbered_from i (drop i xs)) ≡ all → new ++ map f (numbered_from (i + 1) (drop (i + 1) xs)) ≡ all
    mapped_more f added e =
        joined (f (i, x) ∷ []) (map f (numbered_from (i + 1) (drop (i + 1) xs))) (map f (numbered_from i (drop i xs))) added
        (ap (λ (ys : List X). map f (numbered_from i ys)) (begins read xs same i x lt here)
        ∙ ap (λ (n : ℕ). f (i, x) ∷ map f (numbered_from n (drop (i + 1) xs))) (sym (add-one i))) e

    pub list_more : (f : ℕ × X → List Y) → new ≡ old ++ f (i, x)
        → old ++ flat_map f (numbered_from i (drop i xs)) ≡ all → new ++ flat_map f (numbered_from (i + 1) (drop (i + 1) xs)) ≡ all
    list_more f added e =
        joined (f (i, x)) (flat_map f (numbered_from (i + 1) (drop (i + 1) xs))) (flat_map f (numbered_from i (drop i xs))) added
        (ap (λ (ys : List X). flat_map f (numbered_from i ys)) (begins read xs same i x lt here)
        ∙ ap (λ (n : ℕ). f (i, x) ++ flat_map f (numbered_from n (drop (i + 1) xs))) (sym (add-one i))) e

-- none is left
module _ {X Y : Type 0} (all old : List Y) (xs : List X) (i : ℕ) (past : length xs ≤ i) where
  pub numbered_done : (f : ℕ × X → Option Y) → old ++ filter_map f (numbered_from i (drop i xs)) ≡ all → old ≡ all
  numbered_done f e = sym (append-nil old) ∙ (sym (ap (λ (ys : List X). old ++ filter_map f (numbered_from i ys)) (drop_all i xs past)) ∙ e)

  pub mapped_done : (f : ℕ × X → Y) → old ++ map f (numbered_from i (drop i xs)) ≡ all → old ≡ all
  mapped_done f e = sym (append-nil old) ∙ (sym (ap (λ (ys : List X). old ++ map f (numbered_from i ys)) (drop_all i xs past)) ∙ e)

  pub lists_done : (f : ℕ × X → List Y) → old ++ flat_map f (numbered_from i (drop i xs)) ≡ all → old ≡ all
  lists_done f e = sym (append-nil old) ∙ (sym (ap (λ (ys : List X). old ++ flat_map f (numbered_from i ys)) (drop_all i xs past)) ∙ e)
