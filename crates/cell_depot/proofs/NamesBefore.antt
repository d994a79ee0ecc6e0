-- The order of names is byte order.
use Rattle.std.proofs.Common.{◌≡◌, refl, ap, ◌∙◌, ℕ, Bool, true, false, cond, ◌&&◌, ◌||◌, ◌==◌, List, [], ◌∷◌}
use Rattle.std.specs.Prelude.{nat_lt}
use Rattle.std.specs.declared.cmp.Ordering.{Ordering}
use Rattle.std.specs.declared.cmp.Ordering.TheVariants.{Less, Equal, Greater}
use Rattle.std.specs.Ordering.{nat_cmp, ordering_then, is_lt}
use Rattle.std.specs.Cmp.Lexicographic.{slice_cmp}
use Rattle.cell_num.specs.Lists.{is_before}

pub lt_is_before : (xs ys : List ℕ) → is_lt (slice_cmp nat_cmp xs ys) ≡ is_before xs ys
lt_is_before [] [] = refl
lt_is_before [] (y ∷ ys) = refl
lt_is_before (x ∷ xs) [] = refl
lt_is_before (x ∷ xs) (y ∷ ys) = go (nat_lt x y) (x == y) (slice_cmp nat_cmp xs ys) (is_before xs ys) (lt_is_before xs ys)
  where
    go : (l q : Bool) (o : Ordering) (rest : Bool) → is_lt o ≡ rest → is_lt (ordering_then (cond l Less (cond q Equal Greater)) o) ≡ (l || q && rest)
    go true q o rest e = refl
    go false true o rest e = e
    go false false o rest e = refl
