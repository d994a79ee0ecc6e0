-- What is read of a list that is another one's.
use Rattle.std.proofs.Common.{◌≡◌, sym, ◌∙◌, ap, subst, arith, ℕ, zero, suc, ◌+◌, ◌<◌, true, false, List, [], ◌∷◌, ◌++◌, length, get_or, take, map}
use Rattle.std.specs.Prelude.{Some, None, All, slice_get, nat_lt}
use Rattle.std.proofs.lemmas.Bool.{ltb-false, ltb-true}
use Rattle.std.proofs.lemmas.Option.{slice_get_past}
use Rattle.std.proofs.lemmas.List.{map_more}
use Rattle.cell_num.specs.Lists.{In}
use Rattle.cell_num.proofs.Elements.{All-In, get-In}

pub got : {X : Type 0} (xs : List X) (i : ℕ) (x : X) → i < length xs → x ≡ get_or xs i x → slice_get xs i ≡ Some x
got [] i x lt e = absurd (omega (arith, lt))
got (y ∷ ys) zero x lt e = ap Some (sym e)
got (y ∷ ys) (suc i) x lt e = got ys i x (omega (arith, lt)) e

pub none_by_test : {X : Type 0} (read xs : List X) → read ≡ xs → (i : ℕ) → false ≡ nat_lt i (length read) → slice_get xs i ≡ None
none_by_test read xs same i t = slice_get_past xs i (ltb-false i (length xs) (sym (t ∙ ap (λ ys. nat_lt i (length ys)) same)))

module _ {X : Type 0} (read xs : List X) (same : read ≡ xs) (i : ℕ) (x : X) (here : x ≡ get_or read i x) where
  pub got_there : i < length read → slice_get xs i ≡ Some x
  got_there lt = subst (λ (ys : List X). slice_get ys i ≡ Some x) same (got read i x lt here)

  pub got_by_test : true ≡ nat_lt i (length read) → slice_get xs i ≡ Some x
  got_by_test t = got_there (ltb-true i (length read) (sym t))

  pub in_there : i < length read → In x xs
  in_there lt = get-In xs i x (got_there lt)

  pub in_by_test : true ≡ nat_lt i (length read) → In x xs
  in_by_test t = get-In xs i x (got_by_test t)

  pub all_there : (P : X → Type 0) → All P xs → i < length read → P x
  all_there P all lt = All-In P xs all x (in_there lt)

  -- one more element is mapped
  pub mapped_more : {Y : Type 0} (f : X → Y) (y : Y) (old new : List Y) → i < length read → new ≡ old ++ y ∷ [] → y ≡ f x → old ≡ map f (take i xs) → new ≡ map f (take (i + 1) xs)
  mapped_more {Y = Y} f y old new lt added is far =
      added
      ∙ (ap (λ (ys : List Y). ys ++ y ∷ []) far
      ∙ (ap (λ (z : Y). map f (take i xs) ++ z ∷ []) (is ∙ ap f here')
      ∙ sym (map_more f xs i x (subst (λ (ys : List X). i < length ys) same lt))))
    where
      here' : x ≡ get_or xs i x
      here' = subst (λ (ys : List X). x ≡ get_or ys i x) same here
