-- Searches among the elements that pass a test.
use Rattle.std.proofs.Common.{◌≡◌, Bool, true, false, cond, List, [], ◌∷◌, Some, None, refl, ap, ◌∙◌}
use Rattle.std.specs.Prelude.{Option, find, filter, filter_map, ◌&&◌}
use Rattle.std.specs.List.{cons_option}

find_one : {X : Type 0} (p q : Bool) (x : X) (rest found : Option X) (ys : List X) (test : X → Bool) → test x ≡ p → rest ≡ found → find test ys ≡ rest
    → find test (cond q (x ∷ ys) ys) ≡ cond (p && q) (Some x) found
find_one true true x rest found ys test e r f = ap (λ b. cond b (Some x) (find test ys)) e
find_one false true x rest found ys test e r f = ap (λ b. cond b (Some x) (find test ys)) e ∙ f ∙ r
find_one true false x rest found ys test e r f = f ∙ r
find_one false false x rest found ys test e r f = f ∙ r

-- the first that passes both tests
pub find-filter : {X : Type 0} (p q : X → Bool) (xs : List X) → find p (filter q xs) ≡ find (λ x. p x && q x) xs
find-filter p q [] = refl
find-filter p q (x ∷ xs) = find_one (p x) (q x) x _ _ (filter q xs) p refl (find-filter p q xs) refl

offered : {X Y : Type 0} (q : Bool) (x : X) (f : X → Option Y) (ys : List X) (rest : List Y) (o : Option Y) → f x ≡ o → filter_map f ys ≡ rest
    → filter_map f (cond q (x ∷ ys) ys) ≡ cons_option (cond q o None) rest
offered true x f ys rest o e h = ap (λ p. cons_option p (filter_map f ys)) e ∙ ap (cons_option o) h
offered false x f ys rest o e h = h

-- what the elements that pass give is what each gives that passes
pub filter_map-filter : {X Y : Type 0} (f : X → Option Y) (q : X → Bool) (xs : List X) → filter_map f (filter q xs) ≡ filter_map (λ x. cond (q x) (f x) None) xs
filter_map-filter f q [] = refl
filter_map-filter f q (x ∷ xs) = offered (q x) x f (filter q xs) _ (f x) refl (filter_map-filter f q xs)

-- what passes one test and then another passes both
pub filter-filter : {X : Type 0} (p q : X → Bool) (xs : List X) → filter q (filter p xs) ≡ filter (λ x. p x && q x) xs
filter-filter p q [] = refl
filter-filter p q (x ∷ xs) = go (p x) (filter-filter p q xs)
  where
    go : (b : Bool) → filter q (filter p xs) ≡ filter (λ x. p x && q x) xs → filter q (cond b (x ∷ filter p xs) (filter p xs)) ≡ cond (b && q x) (x ∷ filter (λ x. p x && q x) xs) (filter (λ x. p x && q x) xs)
    go true e = ap (λ ys. cond (q x) (x ∷ ys) ys) e
    go false e = e

pub none_either_way : {X : Type 0} (b : Bool) (o : Option X) → o ≡ None → cond b o None ≡ None
none_either_way true o e = e
none_either_way false o e = refl
