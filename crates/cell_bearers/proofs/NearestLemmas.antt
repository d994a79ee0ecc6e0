-- The nearest cell that has a name weakly.
use Rattle.std.proofs.Common.{◌≡◌, refl, sym, ◌∙◌, ap, arith, ℕ, ◌+◌, ◌<◌, ◌≤◌, Bool, true, false, cond, List, [], ◌∷◌, length, get_or, drop, add-one, subst}
use Rattle.std.specs.Prelude.{Option, Some, None, IfSome, option_map}
use Rattle.std.proofs.lemmas.List.{drop_all}
use Rattle.cell_num.specs.Lists.{or_else}
use Rattle.cell_described.specs.declared.cell.DescribedCell.{DescribedCell}
use Rattle.cell_bearers.specs.Found.{at_place, found_from, found_near, nearest_by}
use Rattle.cell_bearers.specs.Seeing.{stands_at}
use Rattle.cell_bearers.specs.declared.first.FirstBearer.{FirstBearer}
use Rattle.cell_bearers.specs.declared.sight.Sight.{Sight}
use Rattle.cell_bearers.proofs.Reading.{begins}
use Rattle.cell_bearers.proofs.Sooner.{within}

-- ---- one cell
pub at_none : (b : Bool) (x : Option ℕ) (place : ℕ) → b ≡ false → None ≡ option_map (at_place place) (cond b x None)
at_none b x place e = sym (ap (λ (t : Bool). option_map (at_place place) (cond t x None)) e)

pub at_here : (b : Bool) (x : Option ℕ) (place : ℕ) → b ≡ true → option_map (at_place place) x ≡ option_map (at_place place) (cond b x None)
at_here b x place e = sym (ap (λ (t : Bool). option_map (at_place place) (cond t x None)) e)

-- ---- one cell after the other
module _ (test : DescribedCell → Bool) (said : ℕ × DescribedCell → Option ℕ) (xs : List DescribedCell) (all : Option FirstBearer) where
  module _ (i : ℕ) (x : DescribedCell) (lt : i < length xs) (here : x ≡ get_or xs i x) (so_far : found_from test said i (drop i xs) ≡ all) where
    more : found_from test said i (drop i xs) ≡ or_else (option_map (at_place i) (cond (test x) (said (i, x)) None)) (found_from test said (i + 1) (drop (i + 1) xs))
    more =
        ap (found_from test said i) (begins xs xs refl i x lt here)
        ∙ ap (λ (n : ℕ). or_else (option_map (at_place i) (cond (test x) (said (i, x)) None)) (found_from test said n (drop (i + 1) xs))) (sym (add-one i))

    pub goes_on : None ≡ option_map (at_place i) (cond (test x) (said (i, x)) None) → found_from test said (i + 1) (drop (i + 1) xs) ≡ all
    goes_on none = ap (λ (o : Option FirstBearer). or_else o (found_from test said (i + 1) (drop (i + 1) xs))) none ∙ (sym more ∙ so_far)

    pub ends : (b : FirstBearer) → Some b ≡ option_map (at_place i) (cond (test x) (said (i, x)) None) → Some b ≡ all
    ends b some = ap (λ (o : Option FirstBearer). or_else o (found_from test said (i + 1) (drop (i + 1) xs))) some ∙ (sym more ∙ so_far)

  pub none_left : (i : ℕ) → length xs ≤ i → found_from test said i (drop i xs) ≡ all → None ≡ all
  none_left i past so_far = sym (ap (found_from test said i) (drop_all i xs past)) ∙ so_far

-- ---- one namespace after the other
module _ (test : ℕ → DescribedCell → Bool) (said : ℕ × DescribedCell → Option ℕ) (cells : List DescribedCell) where
  near_within : (spaces : List ℕ) (o : Option FirstBearer) → o ≡ found_near test said cells spaces → IfSome o (λ b. b.cell < length cells)
  near_within [] None e = tt
  near_within [] (Some b) e = absurd (cc e)
  near_within (ns ∷ spaces) o e = go (found_from (test ns) said 0 cells) refl e (near_within spaces o)
    where
      go : (f : Option FirstBearer) → found_from (test ns) said 0 cells ≡ f → o ≡ or_else f (found_near test said cells spaces)
          → (o ≡ found_near test said cells spaces → IfSome o (λ b. b.cell < length cells)) → IfSome o (λ b. b.cell < length cells)
      go None is e ih = ih e
      go (Some b) is e ih = subst (λ (x : Option FirstBearer). IfSome x (λ b. b.cell < length cells)) (sym e) (let lt = within (test ns) said 0 cells b is in omega (arith, lt))

-- the cell that is found is there
pub near_some : (s : Sight) (said : ℕ × DescribedCell → Option ℕ) (o : Option FirstBearer) → o ≡ nearest_by s said → IfSome o (λ b. b.cell < length s.cells.now)
near_some s said o e = near_within (stands_at s.asked) said s.cells.now s.spaces.now o e
