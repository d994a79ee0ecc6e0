-- What comes behind a list, one element after another.
use Rattle.std.proofs.Common.{◌≡◌, refl, sym, ◌∙◌, ap, subst, arith, ℕ, zero, suc, ◌+◌, ◌<◌, ◌≤◌, Bool, true, false, cond, List, [], ◌∷◌, ◌++◌, length, take, drop, get_or, map, append_assoc, append-nil, add-one}
use Rattle.std.specs.Prelude.{Option, Some, filter, filter_map, flat_map, slice_get}
use Rattle.std.proofs.lemmas.List.{drop_more, drop_all, map-append}
use Rattle.std.proofs.lemmas.List.Concat.{flat_map-append}
use Rattle.std.proofs.lemmas.List.Elements.{filter_map-append}
use Rattle.cell_num.specs.Lists.{numbered_from}

-- the list from a place on begins with what stands there
pub drop_at : {X : Type 0} (xs : List X) (i : ℕ) (x : X) → slice_get xs i ≡ Some x → drop i xs ≡ x ∷ drop (i + 1) xs
drop_at [] i x e = absurd (cc e)
drop_at (y ∷ xs) zero x e = let same : y ≡ x = cc in ap (λ z. z ∷ xs) same
drop_at (y ∷ xs) (suc i) x e = drop_at xs i x e ∙ ap (λ n. x ∷ drop n (y ∷ xs)) (let more : suc (i + 1) ≡ suc i + 1 = omega arith in more)

module _ {X Y : Type 0} (f : X → List Y) (xs : List X) where
  -- what one more comes to stands behind
  pub piece_more : (i : ℕ) (x : X) (old now new : List Y) → take (i + 1) xs ≡ take i xs ++ x ∷ [] → now ≡ old ++ flat_map f (take i xs) → new ≡ now ++ f x → new ≡ old ++ flat_map f (take (i + 1) xs)
  piece_more i x old now new next before added =
      added
      ∙ (ap (λ (ys : List Y). ys ++ f x) before
      ∙ (append_assoc old (flat_map f (take i xs)) (f x)
      ∙ ap (λ (ys : List Y). old ++ ys) (sym (ap (flat_map f) next ∙ (flat_map-append f (take i xs) (x ∷ []) ∙ ap (λ (ys : List Y). flat_map f (take i xs) ++ ys) (append-nil (f x)))))))

-- what is left begins with what one more comes to; the list is read from another place
pub pieces_over : {X Y : Type 0} (f : X → List Y) (xs read : List X) → read ≡ xs → (i : ℕ) (x : X) (now new all : List Y) → i < length read → x ≡ get_or read i x → new ≡ now ++ f x
    → now ++ flat_map f (drop i xs) ≡ all → new ++ flat_map f (drop (i + 1) xs) ≡ all
pieces_over {X = X} {Y = Y} f xs read same i x now new all lt here added far =
    ap (λ (ys : List Y). ys ++ flat_map f (drop (i + 1) xs)) added
    ∙ (append_assoc now (f x) (flat_map f (drop (i + 1) xs)) ∙ (ap (λ (zs : List X). now ++ flat_map f zs) (sym begins) ∙ far))
  where
    begins : drop i xs ≡ x ∷ drop (i + 1) xs
    begins =
        drop_more xs i x (subst (λ (zs : List X). i < length zs) same lt)
        ∙ ap (λ (y : X). y ∷ drop (i + 1) xs) (sym (subst (λ (zs : List X). x ≡ get_or zs i x) same here))

module _ {X Y : Type 0} (f : X → Y) where
  -- what is left begins with what one more comes to
  pub mapped_over : (xs : List X) (i : ℕ) (x : X) (now new all : List Y) → slice_get xs i ≡ Some x → new ≡ now ++ f x ∷ [] → now ++ map f (drop i xs) ≡ all → new ++ map f (drop (i + 1) xs) ≡ all
  mapped_over xs i x now new all here added far =
      ap (λ (ys : List Y). ys ++ map f (drop (i + 1) xs)) added
      ∙ (append_assoc now (f x ∷ []) (map f (drop (i + 1) xs)) ∙ (ap (λ (zs : List X). now ++ map f zs) (sym (drop_at xs i x here)) ∙ far))

  -- the same of an iterator
  pub item_over : (all done new : List Y) (left next : List X) (x : X) → left ≡ x ∷ next → new ≡ done ++ f x ∷ [] → all ≡ done ++ map f left → all ≡ new ++ map f next
  item_over all done new left next x is more so_far =
      so_far
      ∙ (ap (λ (xs : List X). done ++ map f xs) is
      ∙ (sym (append_assoc done (f x ∷ []) (map f next)) ∙ ap (λ (ys : List Y). ys ++ map f next) (sym more)))

  pub items_end : (all done : List Y) (left : List X) → left ≡ [] → all ≡ done ++ map f left → done ≡ all
  items_end all done left none so_far = sym (so_far ∙ (ap (λ (xs : List X). done ++ map f xs) none ∙ append-nil done))

module _ {X Y : Type 0} (f : X → Option Y) where
  pub chosen_over : (xs : List X) (i : ℕ) (x : X) (now new all : List Y) → slice_get xs i ≡ Some x → new ≡ now ++ filter_map f (x ∷ []) → now ++ filter_map f (drop i xs) ≡ all → new ++ filter_map f (drop (i + 1) xs) ≡ all
  chosen_over xs i x now new all here added far =
      ap (λ (ys : List Y). ys ++ filter_map f (drop (i + 1) xs)) added
      ∙ (append_assoc now (filter_map f (x ∷ [])) (filter_map f (drop (i + 1) xs))
      ∙ (ap (λ (ys : List Y). now ++ ys) (sym (filter_map-append f (x ∷ []) (drop (i + 1) xs)))
      ∙ (ap (λ (zs : List X). now ++ filter_map f zs) (sym (drop_at xs i x here)) ∙ far)))

-- the same of elements with their places
pub numbered_over : {X Y : Type 0} (f : ℕ × X → Y) (xs : List X) (i : ℕ) (x : X) (now new all : List Y) → i < length xs → x ≡ get_or xs i x → new ≡ now ++ f (i, x) ∷ []
    → now ++ map f (numbered_from i (drop i xs)) ≡ all → new ++ map f (numbered_from (i + 1) (drop (i + 1) xs)) ≡ all
numbered_over {X = X} {Y = Y} f xs i x now new all lt here added far =
    ap (λ (ys : List Y). ys ++ map f (numbered_from (i + 1) (drop (i + 1) xs))) added
    ∙ (append_assoc now (f (i, x) ∷ []) (map f (numbered_from (i + 1) (drop (i + 1) xs)))
    ∙ (ap (λ n. now ++ (f (i, x) ∷ map f (numbered_from n (drop (i + 1) xs)))) (add-one i)
    ∙ (ap (λ (zs : List X). now ++ map f (numbered_from i zs)) (sym (drop_more xs i x lt ∙ ap (λ (y : X). y ∷ drop (i + 1) xs) (sym here))) ∙ far)))

-- nothing is left
pub none_left : {X Y : Type 0} (f : List X → List Y) → f [] ≡ [] → (xs : List X) (i : ℕ) (now all : List Y) → length xs ≤ i → now ++ f (drop i xs) ≡ all → now ≡ all
none_left {Y = Y} f none xs i now all le far =
    sym (append-nil now) ∙ (ap (λ (ys : List Y). now ++ ys) (sym (ap f (drop_all i xs le) ∙ none)) ∙ far)

-- pieces of elements that are themselves made of others
pub flat_over : {X Y Z : Type 0} (f : Y → List Z) (g : X → Y) (xs : List X) → flat_map f (map g xs) ≡ flat_map (λ x. f (g x)) xs
flat_over f g [] = refl
flat_over {Z = Z} f g (x ∷ xs) = ap (λ (zs : List Z). f (g x) ++ zs) (flat_over f g xs)

pub map_over : {X Y Z : Type 0} (f : Y → Z) (g : X → List Y) (xs : List X) → map f (flat_map g xs) ≡ flat_map (λ x. map f (g x)) xs
map_over f g [] = refl
map_over {Z = Z} f g (x ∷ xs) = map-append f (g x) (flat_map g xs) ∙ ap (λ (zs : List Z). map f (g x) ++ zs) (map_over f g xs)

-- pieces of those that pass
pub passed_over : {X Y : Type 0} (t : X → Bool) (f : X → List Y) (xs : List X) → flat_map (λ x. cond (t x) (f x) []) xs ≡ flat_map f (filter t xs)
passed_over t f [] = refl
passed_over {X = X} {Y = Y} t f (x ∷ xs) = go (t x) (passed_over t f xs)
  where
    go : (b : Bool) → flat_map (λ (x : X). cond (t x) (f x) []) xs ≡ flat_map f (filter t xs) → cond b (f x) [] ++ flat_map (λ (x : X). cond (t x) (f x) []) xs ≡ flat_map f (cond b (x ∷ filter t xs) (filter t xs))
    go true rest = ap (λ (ys : List Y). f x ++ ys) rest
    go false rest = rest
