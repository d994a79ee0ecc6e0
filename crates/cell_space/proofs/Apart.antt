-- Rows of which no name stands twice.
use Rattle.std.proofs.Common.{◌≡◌, ℕ, zero, suc, ◌+◌, Bool, true, false, List, [], ◌∷◌, ◌++◌, Some, take, refl, ap, sym, ◌∙◌, arith}
use Rattle.std.specs.Prelude.{not, ◌&&◌, ◌||◌, slice_get}
use Rattle.std.specs.List.{list_all}
use Rattle.cell_num.specs.Lists.{equals}
use Rattle.cell_world.specs.World.{Alias}
use Rattle.cell_world.specs.Names.{has_name}
use Rattle.cell_space.specs.Rows.{are_apart}

both : (b c : Bool) → b ≡ true → c ≡ true → (b && c) ≡ true
both true c e f = f
both false c e f = absurd (cc e)

left : (b c : Bool) → (b && c) ≡ true → b ≡ true
left true c e = refl
left false c e = absurd (cc e)

right : (b c : Bool) → (b && c) ≡ true → c ≡ true
right true c e = e
right false c e = absurd (cc e)

not_left : (b c : Bool) → (b || c) ≡ false → b ≡ false
not_left true c e = absurd (cc e)
not_left false c e = refl

not_right : (b c : Bool) → (b || c) ≡ false → c ≡ false
not_right true c e = absurd (cc e)
not_right false c e = e

off : (b : Bool) → not b ≡ true → b ≡ false
off true e = absurd (cc e)
off false e = refl

abbrev differs : Alias → Alias → Bool
differs a b = not (equals a.name b.name)

all_more : (a r : Alias) (rows : List Alias) → list_all (differs a) rows ≡ true → equals a.name r.name ≡ false → list_all (differs a) (rows ++ r ∷ []) ≡ true
all_more a r [] all e = ap (λ b. not b && true) e
all_more a r (d ∷ rows) all e =
    both (differs a d) _ (left (differs a d) _ all) (all_more a r rows (right (differs a d) _ all) e)

-- one more row whose name isn't there
pub apart_more : (rows : List Alias) (r : Alias) → are_apart rows ≡ true → has_name rows r.name ≡ false → are_apart (rows ++ r ∷ []) ≡ true
apart_more [] r apart free = refl
apart_more (a ∷ rows) r apart free =
    both (list_all (differs a) (rows ++ r ∷ [])) _
    (all_more a r rows (left (list_all (differs a) rows) _ apart) (not_left (equals a.name r.name) _ free))
    (apart_more rows r (right (list_all (differs a) rows) _ apart) (not_right (equals a.name r.name) _ free))

one_differs : (a r : Alias) (rows : List Alias) (i : ℕ) → list_all (differs a) rows ≡ true → slice_get rows i ≡ Some r → equals a.name r.name ≡ false
one_differs a r [] i all e = absurd (cc e)
one_differs a r (d ∷ rows) zero all e =
    let same : d ≡ r = cc in ap (λ x. equals a.name x.name) (sym same) ∙ off (equals a.name d.name) (left (differs a d) _ all)
one_differs a r (d ∷ rows) (suc i) all e = one_differs a r rows i (right (differs a d) _ all) e

neither : (b c : Bool) → b ≡ false → c ≡ false → (b || c) ≡ false
neither true c e f = absurd (cc e)
neither false c e f = f

-- no earlier row has the name of a row
pub free_before : (rows : List Alias) (i : ℕ) (r : Alias) → are_apart rows ≡ true → slice_get rows i ≡ Some r → has_name (take i rows) r.name ≡ false
free_before [] i r apart e = absurd (cc e)
free_before (a ∷ rows) zero r apart e = refl
free_before (a ∷ rows) (suc i) r apart e =
    neither (equals a.name r.name) _
    (one_differs a r rows i (left (list_all (differs a) rows) _ apart) e)
    (free_before rows i r (right (list_all (differs a) rows) _ apart) e)

pub take_next : {X : Type 0} (xs : List X) (i : ℕ) (x : X) → slice_get xs i ≡ Some x → take (i + 1) xs ≡ take i xs ++ x ∷ []
take_next [] i x e = absurd (cc e)
take_next (y ∷ xs) zero x e = let same : y ≡ x = cc in ap (λ z. z ∷ []) same
take_next (y ∷ xs) (suc i) x e = ap (λ n. take n (y ∷ xs)) (let more : suc i + 1 ≡ suc (i + 1) = omega arith in more) ∙ ap (λ zs. y ∷ zs) (take_next xs i x e)
