-- The marks of sealed bytes, as numbers.
use Rattle.std.proofs.Common.{◌≡◌, ℕ, zero, suc, ◌+◌, ◌-◌, ◌*◌, Bool, true, false, not, List, [], ◌∷◌, ◌++◌, map, take, drop, replicate, refl, sym, ap, ◌∙◌, arith}
use Rattle.std.specs.Prelude.{◌==◌, ◌||◌, slice_range}
use Rattle.std.specs.List.{list_any}
use Rattle.std.proofs.lemmas.Bool.{eqb-true, eq-eqb, false≢true}
use Rattle.std.proofs.lemmas.List.{map-append, take-map, drop-map}
use Rattle.cell_num.specs.Bits.{little}
use Rattle.cell_world.specs.Placed.Pages.{filled}
use Rattle.cell_mem.specs.Inside.{is_mark}

pub marks_repeated : (n b : ℕ) → map is_mark (replicate n b) ≡ replicate n (is_mark b)
marks_repeated zero b = refl
marks_repeated (suc n) b = ap (λ bs. is_mark b ∷ bs) (marks_repeated n b)

pub marks_filled : (marks : List ℕ) (from n b : ℕ) → map is_mark (filled marks from n b) ≡ filled (map is_mark marks) from n (is_mark b)
marks_filled marks from n b =
    map-append is_mark (take from marks ++ replicate n b) (drop (from + n) marks)
    ∙ ap (λ bs. bs ++ map is_mark (drop (from + n) marks)) (map-append is_mark (take from marks) (replicate n b))
    ∙ ap (λ bs. map is_mark (take from marks) ++ bs ++ map is_mark (drop (from + n) marks)) (marks_repeated n b)
    ∙ ap (λ bs. bs ++ replicate n (is_mark b) ++ map is_mark (drop (from + n) marks)) (sym (take-map is_mark from marks))
    ∙ ap (λ bs. take from (map is_mark marks) ++ replicate n (is_mark b) ++ bs) (sym (drop-map is_mark (from + n) marks))

scaled : (n : ℕ) → (n == 0) ≡ (0 + 256 * n == 0)
scaled n = go (n == 0) (0 + 256 * n == 0) refl refl
  where
    go : (a b : Bool) → (n == 0) ≡ a → (0 + 256 * n == 0) ≡ b → a ≡ b
    go true true e f = refl
    go false false e f = refl
    go true false e f = let z : n ≡ 0 = eqb-true n 0 e in absurd (false≢true (sym f ∙ eq-eqb (0 + 256 * n) 0 (omega (arith, z))))
    go false true e f = let z : 0 + 256 * n ≡ 0 = eqb-true (0 + 256 * n) 0 f in absurd (false≢true (sym e ∙ eq-eqb n 0 (omega (arith, z))))

positive : (b n : ℕ) → true ≡ not (suc b + 256 * n == 0)
positive b n = go (suc b + 256 * n == 0) refl
  where
    go : (a : Bool) → (suc b + 256 * n == 0) ≡ a → true ≡ not a
    go false e = refl
    go true e = let z : suc b + 256 * n ≡ 0 = eqb-true (suc b + 256 * n) 0 e in absurd (omega (arith, z))

is_set : (b : ℕ) → not (suc b == 0) ≡ true
is_set b = go (suc b == 0) refl
  where
    go : (a : Bool) → (suc b == 0) ≡ a → not a ≡ true
    go false e = refl
    go true e = let z : suc b ≡ 0 = eqb-true (suc b) 0 e in absurd (omega (arith, z))

-- one of the bytes is sealed where the number of their marks isn't 0
any_marked : (marks : List ℕ) → list_any (λ sealed. sealed) (map is_mark marks) ≡ not (little marks == 0)
any_marked [] = refl
any_marked (zero ∷ marks) = any_marked marks ∙ ap not (scaled (little marks))
any_marked (suc b ∷ marks) = ap (λ x. x || list_any (λ sealed. sealed) (map is_mark marks)) (is_set b) ∙ positive b (little marks)

pub marked_in : (marks : List ℕ) (from to : ℕ) → list_any (λ sealed. sealed) (slice_range (map is_mark marks) from to) ≡ not (little (slice_range marks from to) == 0)
marked_in marks from to =
    ap (λ bs. list_any (λ sealed. sealed) (take (to - from) bs)) (drop-map is_mark from marks)
    ∙ ap (list_any (λ sealed. sealed)) (take-map is_mark (to - from) (drop from marks))
    ∙ any_marked (slice_range marks from to)
