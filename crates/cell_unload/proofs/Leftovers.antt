-- Lists of which some elements are taken away.
use Rattle.std.proofs.Common.{◌≡◌, refl, sym, ◌∙◌, ap, ℕ, inl, inr, Bool, true, false, cond, not, true≢false, ◌&&◌, ◌||◌, List, [], ◌∷◌, ◌++◌, map}
use Rattle.std.specs.Prelude.{◌==◌, filter, flat_map}
use Rattle.std.specs.List.{list_any}
use Rattle.std.proofs.lemmas.Bool.{eqb-true, eq-eqb}
use Rattle.std.proofs.lemmas.List.Elements.{filter-append}
use Rattle.cell_num.specs.Lists.{In, holds}
use Rattle.cell_num.proofs.Elements.{filter_all, filter_none}
use Rattle.cell_num.specs.declared.ids.CellId.{CellId}

pub turn : (a b : ℕ) → (a == b) ≡ (b == a)
turn a b = go (a == b) refl (b == a) refl
  where
    go : (x : Bool) → (a == b) ≡ x → (y : Bool) → (b == a) ≡ y → x ≡ y
    go true e true f = refl
    go false e false f = refl
    go true e false f = absurd (true≢false (sym (eq-eqb b a (sym (eqb-true a b e))) ∙ f))
    go false e true f = absurd (true≢false (sym (eq-eqb a b (sym (eqb-true b a f))) ∙ e))

-- what one filter after another leaves
pub filter_twice : {X : Type 0} (p q r : X → Bool) (xs : List X) → ((x : X) → r x ≡ (q x && p x)) → filter p (filter q xs) ≡ filter r xs
filter_twice p q r [] h = refl
filter_twice {X} p q r (x ∷ xs) h = go (q x) (h x) (filter_twice p q r xs h)
  where
    go : (b : Bool) → r x ≡ (b && p x) → filter p (filter q xs) ≡ filter r xs → filter p (cond b (x ∷ filter q xs) (filter q xs)) ≡ cond (r x) (x ∷ filter r xs) (filter r xs)
    go true e rest = ap (λ (b : Bool). cond b (x ∷ filter p (filter q xs)) (filter p (filter q xs))) (sym e) ∙ ap (λ (ys : List X). cond (r x) (x ∷ ys) ys) rest
    go false e rest = rest ∙ ap (λ (b : Bool). cond b (x ∷ filter r xs) (filter r xs)) (sym e)

pub not_or : (a b : Bool) → not (a || b) ≡ (not a && not b)
not_or true b = refl
not_or false b = refl

pub holds_numbers : (cells : List CellId) (n : ℕ) → list_any (λ c. c.0 == n) cells ≡ holds (map (λ c. c.0) cells) n
holds_numbers [] n = refl
holds_numbers (c ∷ cells) n = ap (λ b. (c.0 == n) || b) (holds_numbers cells n)

pub filter_equal : {X : Type 0} (p q : X → Bool) (xs : List X) → ((x : X) → In x xs → p x ≡ q x) → filter p xs ≡ filter q xs
filter_equal p q [] h = refl
filter_equal {X} p q (x ∷ xs) h =
    ap (λ (b : Bool). cond b (x ∷ filter p xs) (filter p xs)) (h x (inl refl)) ∙ ap (λ (ys : List X). cond (q x) (x ∷ ys) ys) (filter_equal p q xs (λ y i. h y (inr i)))

module _ {X Y : Type 0} where
  pub filter_mapped : (p : Y → Bool) (f : X → Y) (xs : List X) → filter p (map f xs) ≡ map f (filter (λ x. p (f x)) xs)
  filter_mapped p f [] = refl
  filter_mapped p f (x ∷ xs) = go (p (f x)) (filter_mapped p f xs)
    where
      go : (b : Bool) → filter p (map f xs) ≡ map f (filter (λ x. p (f x)) xs) → cond b (f x ∷ filter p (map f xs)) (filter p (map f xs)) ≡ map f (cond b (x ∷ filter (λ x. p (f x)) xs) (filter (λ x. p (f x)) xs))
      go true e = ap (λ (ys : List Y). f x ∷ ys) e
      go false e = e

  -- of lists in a row some stay whole, and the others go whole
  pub filter_flat : (p : Y → Bool) (stay : X → Bool) (f : X → List Y) → ((x : X) (y : Y) → In y (f x) → p y ≡ stay x) → (xs : List X) → filter p (flat_map f xs) ≡ flat_map f (filter stay xs)
  filter_flat p stay f h [] = refl
  filter_flat p stay f h (x ∷ xs) = filter-append p (f x) (flat_map f xs) ∙ go (stay x) refl (filter_flat p stay f h xs)
    where
      go : (b : Bool) → stay x ≡ b → filter p (flat_map f xs) ≡ flat_map f (filter stay xs) → filter p (f x) ++ filter p (flat_map f xs) ≡ flat_map f (cond b (x ∷ filter stay xs) (filter stay xs))
      go true e k = ap (λ (ys : List Y). ys ++ filter p (flat_map f xs)) (filter_all p (f x) (λ y i. h x y i ∙ e)) ∙ ap (λ (ys : List Y). f x ++ ys) k
      go false e k = ap (λ (ys : List Y). ys ++ filter p (flat_map f xs)) (filter_none p (f x) (λ y i. h x y i ∙ e)) ∙ k
