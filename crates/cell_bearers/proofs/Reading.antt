-- What is read of a list that is another one's.
use Rattle.std.proofs.Common.{◌≡◌, refl, sym, ◌∙◌, ap, subst, ℕ, ◌+◌, ◌<◌, List, [], ◌∷◌, ◌++◌, length, get_or, take, drop, map}
use Rattle.std.specs.Prelude.{Some, slice_get}
use Rattle.std.proofs.lemmas.List.{drop_more, map_more}
use Rattle.std.proofs.lemmas.Option.{slice_get_read}
use Rattle.cell_num.specs.Lists.{In}
use Rattle.cell_num.proofs.Elements.{get-In}

module _ {X : Type 0} (read xs : List X) (same : read ≡ xs) (i : ℕ) (x : X) (lt : i < length read) (here : x ≡ get_or read i x) where
  below : i < length xs
  below = subst (λ (ys : List X). i < length ys) same lt

  here' : x ≡ get_or xs i x
  here' = subst (λ (ys : List X). x ≡ get_or ys i x) same here

  pub got : slice_get xs i ≡ Some x
  got = slice_get_read xs (length xs) i x refl below here'

  pub inside : In x xs
  inside = get-In xs i x got

  -- it begins what is left
  pub begins : drop i xs ≡ x ∷ drop (i + 1) xs
  begins = drop_more xs i x below ∙ ap (λ (y : X). y ∷ drop (i + 1) xs) (sym here')

  -- one more element is mapped
  pub mapped_more : {Y : Type 0} (f : X → Y) (y : Y) (old new : List Y) → new ≡ old ++ y ∷ [] → y ≡ f x → old ≡ map f (take i xs) → new ≡ map f (take (i + 1) xs)
  mapped_more {Y = Y} f y old new added is far =
      added
      ∙ (ap (λ (ys : List Y). ys ++ y ∷ []) far
      ∙ (ap (λ (z : Y). map f (take i xs) ++ z ∷ []) (is ∙ ap f here')
      ∙ sym (map_more f xs i x below)))

-- the same of an element that is copied
pub copied_more : {X Y : Type 0} (xs : List X) (i : ℕ) (d : X) → i < length xs → (f : X → Y) (y : Y) (old new : List Y) → new ≡ old ++ y ∷ [] → y ≡ f (get_or xs i d) → old ≡ map f (take i xs)
    → new ≡ map f (take (i + 1) xs)
copied_more {Y = Y} xs i d lt f y old new added is far =
    added
    ∙ (ap (λ (ys : List Y). ys ++ y ∷ []) far
    ∙ (ap (λ (z : Y). map f (take i xs) ++ z ∷ []) is
    ∙ sym (map_more f xs i d lt)))
