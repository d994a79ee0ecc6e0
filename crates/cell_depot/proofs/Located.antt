-- Where the elements that pass a test stand.
use Rattle.std.proofs.Common.{◌≡◌, ℕ, suc, ◌+◌, Bool, true, false, cond, List, [], ◌∷◌, Some, length, refl, ap, sym, ◌∙◌, arith}
use Rattle.std.specs.Prelude.{slice_get, filter, find, map}
use Rattle.cell_num.specs.Lists.{numbered_from, first}

abbrev pub places : {X : Type 0} → List (ℕ × X) → List ℕ
places ps = map (λ p. p.0) ps

-- where they stand, the first element at n
abbrev pub places_from : {X : Type 0} → (X → Bool) → ℕ → List X → List ℕ
places_from test n xs = places (filter (λ p. test p.1) (numbered_from n xs))

-- the first of the elements that pass stands so many behind the first element, which is at n
pub record IsFirst {X : Type 0} (n : ℕ) (xs passed : List X) (p : ℕ) (rest : List ℕ) : Type 0 where
  pub item : X
  pub others : List X
  pub after : ℕ
  pub place : p ≡ n + after
  pub at : slice_get xs after ≡ Some item
  pub filtered : passed ≡ item ∷ others
  pub as_many : length others ≡ length rest

counted : {X : Type 0} (b : Bool) (x : X) (n : ℕ) (ps : List (ℕ × X)) (passed : List X) → length (places ps) ≡ length passed
    → length (places (cond b ((n, x) ∷ ps) ps)) ≡ length (cond b (x ∷ passed) passed)
counted true x n ps passed e = ap suc e
counted false x n ps passed e = e

as_many : {X : Type 0} (test : X → Bool) (n : ℕ) (xs : List X) → length (places_from test n xs) ≡ length (filter test xs)
as_many test n [] = refl
as_many test n (x ∷ xs) = counted (test x) x n _ (filter test xs) (as_many test (suc n) xs)

later : {X : Type 0} (x : X) (n : ℕ) (xs passed : List X) (p : ℕ) (rest : List ℕ) → IsFirst (suc n) xs passed p rest → IsFirst n (x ∷ xs) passed p rest
later x n xs passed p rest f = record {
  item = f.item;
  others = f.others;
  after = suc f.after;
  place = let e = f.place in omega arith;
  at = f.at;
  filtered = f.filtered;
  as_many = f.as_many;
}

now_or_later : {X : Type 0} (b : Bool) (x : X) (n : ℕ) (ps : List (ℕ × X)) (xs passed : List X) (p : ℕ) (rest : List ℕ)
    → length (places ps) ≡ length passed
    → (places ps ≡ p ∷ rest → IsFirst (suc n) xs passed p rest)
    → places (cond b ((n, x) ∷ ps) ps) ≡ p ∷ rest
    → IsFirst n (x ∷ xs) (cond b (x ∷ passed) passed) p rest
now_or_later true x n ps xs passed p rest same ih e = record {
  item = x;
  others = passed;
  after = 0;
  place = let k : n ≡ p = cc in omega arith;
  at = refl;
  filtered = refl;
  as_many = sym same ∙ ap length (let t : places ps ≡ rest = cc in t);
}
now_or_later false x n ps xs passed p rest same ih e = later x n xs passed p rest (ih e)

pub is_first : {X : Type 0} (test : X → Bool) (n : ℕ) (xs : List X) (p : ℕ) (rest : List ℕ) → places_from test n xs ≡ p ∷ rest → IsFirst n xs (filter test xs) p rest
is_first test n [] p rest e = absurd (cc e)
is_first test n (x ∷ xs) p rest e =
    now_or_later (test x) x n _ xs (filter test xs) p rest (as_many test (suc n) xs) (is_first test (suc n) xs p rest) e

empty : {X : Type 0} (xs : List X) → length xs ≡ 0 → xs ≡ []
empty [] e = refl
empty (x ∷ xs) e = absurd (omega arith)

-- no place, no element
pub no_item : {X : Type 0} (test : X → Bool) (n : ℕ) (xs : List X) → places_from test n xs ≡ [] → filter test xs ≡ []
no_item test n xs e = empty (filter test xs) (sym (as_many test n xs) ∙ ap length e)

-- one place, one element
pub only_item : {X : Type 0} (n : ℕ) (xs passed : List X) (p : ℕ) (f : IsFirst n xs passed p []) → passed ≡ f.item ∷ []
only_item n xs passed p f = f.filtered ∙ ap (λ ys. f.item ∷ ys) (empty f.others f.as_many)

found_or_later : {X : Type 0} (b : Bool) (x : X) (found : _) (passed : List X) → found ≡ first passed → cond b (Some x) found ≡ first (cond b (x ∷ passed) passed)
found_or_later true x found passed e = refl
found_or_later false x found passed e = e

pub find-filter : {X : Type 0} (test : X → Bool) (xs : List X) → find test xs ≡ first (filter test xs)
find-filter test [] = refl
find-filter test (x ∷ xs) = found_or_later (test x) x (find test xs) (filter test xs) (find-filter test xs)
