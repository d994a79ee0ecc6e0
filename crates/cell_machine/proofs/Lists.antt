-- Lists that are mapped, and pairs of their elements.
use Rattle.std.proofs.Common.{◌≡◌, refl, sym, ap, ap₂, arith, ℕ, zero, suc, ◌<◌, inl, inr, get_or, Bool, true, false, cond, ◌&&◌, List, [], ◌∷◌, map, length, true≢false}
use Rattle.std.specs.Prelude.{Option, Some, None, position, nat_lt, ◌==◌}
use Rattle.std.specs.List.{position_or_len}
use Rattle.std.specs.Str.{bytes_eq}
use Rattle.std.proofs.lemmas.Bool.{and_parts, eqb-true}
use Rattle.std.proofs.lemmas.Bool.Decides.{nat_tests}
use Rattle.std.proofs.lemmas.List.Folds.{list_all-map}
use Rattle.cell_num.specs.Lists.{each_pair, In}

pub map-map : {X Y Z : Type 0} (f : Y → Z) (g : X → Y) (xs : List X) → map f (map g xs) ≡ map (λ x. f (g x)) xs
map-map f g [] = refl
map-map f g (x ∷ xs) = ap (λ ys. f (g x) ∷ ys) (map-map f g xs)

pub pairs-map : {X Y : Type 0} (t : Y → Y → Bool) (f : X → Y) (xs : List X) → each_pair t (map f xs) ≡ each_pair (λ a b. t (f a) (f b)) xs
pairs-map t f [] = refl
pairs-map t f (x ∷ xs) = ap₂ (λ a b. a && b) (list_all-map (t (f x)) f xs) (pairs-map t f xs)

-- what is found at a place is in the list
pub named_inside : {X : Type 0} (test : X → Bool) (xs : List X) (i : ℕ) → position test xs ≡ Some i → i < length xs
named_inside test xs i e = go (nat_lt (position_or_len test xs) (length xs)) refl e
  where
    some_same : (a b : ℕ) → Some a ≡ (let o : Option ℕ = Some b in o) → a ≡ b
    some_same a b e = cc

    go : (b : Bool) → nat_lt (position_or_len test xs) (length xs) ≡ b → cond b (Some (position_or_len test xs)) None ≡ Some i → i < length xs
    go true here e = let same = some_same (position_or_len test xs) i e in grind (arith, nat_tests)
    go false here e = cc

pub same_names : (xs ys : List ℕ) → bytes_eq xs ys ≡ true → xs ≡ ys
same_names [] [] h = refl
same_names [] (y ∷ ys) h = absurd (true≢false (sym h))
same_names (x ∷ xs) [] h = absurd (true≢false (sym h))
same_names (x ∷ xs) (y ∷ ys) h =
    let parts = and_parts (x == y) (bytes_eq xs ys) h in
    ap₂ (λ a (rest : List ℕ). a ∷ rest) (eqb-true x y parts.0) (same_names xs ys parts.1)

-- what is read is in the list
pub in_get : {X : Type 0} (xs : List X) (i : ℕ) (d : X) → i < length xs → In (get_or xs i d) xs
in_get [] i d lt = absurd (omega (arith, lt))
in_get (x ∷ xs) zero d lt = inl refl
in_get (x ∷ xs) (suc i) d lt = inr (in_get xs i d (omega (arith, lt)))
