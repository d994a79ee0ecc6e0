-- The first cell of which one thing or another is said is the sooner of the first cells of each.
use Rattle.std.proofs.Common.{◌≡◌, refl, sym, ◌∙◌, ap, ap₂, arith, ℕ, suc, ◌+◌, ◌<◌, ◌≤◌, Bool, true, false, cond, List, [], ◌∷◌, ◌++◌, length, get_or, take}
use Rattle.std.specs.Prelude.{Option, Some, None, IfSome, option_map}
use Rattle.std.proofs.lemmas.Bool.{le-ltb, lt-ltb}
use Rattle.std.proofs.lemmas.List.{take_more}
use Rattle.cell_num.specs.Lists.{or_else}
use Rattle.cell_described.specs.declared.cell.DescribedCell.{DescribedCell}
use Rattle.cell_bearers.specs.Bearers.{answer, answer_of}
use Rattle.cell_bearers.specs.Found.{at_place, found_by, found_from, sooner}
use Rattle.cell_bearers.specs.Sight.{sees_by}
use Rattle.cell_bearers.specs.declared.sight.Sight.{Sight}
use Rattle.cell_bearers.specs.declared.bearer.Bearer.{Bearer}
use Rattle.cell_bearers.specs.declared.first.FirstBearer.{FirstBearer}

same_first : (a b : FirstBearer) → Some a ≡ Some b → a ≡ b
same_first a b e = cc

none_some : (b : FirstBearer) → None ≡ Some b → ⊥
none_some b e = cc

module _ (test : DescribedCell → Bool) where
  -- cells are counted from i on
  past : (said : ℕ × DescribedCell → Option ℕ) (i : ℕ) (cells : List DescribedCell) (b : FirstBearer) → found_from test said i cells ≡ Some b → i ≤ b.cell
  past said i [] b e = absurd (none_some b e)
  past said i (c ∷ cells) b e = go (cond (test c) (said (i, c)) None) e (past said (suc i) cells b)
    where
      go : (o : Option ℕ) → or_else (option_map (at_place i) o) (found_from test said (suc i) cells) ≡ Some b → (found_from test said (suc i) cells ≡ Some b → suc i ≤ b.cell) → i ≤ b.cell
      go None e ih = let k = ih e in omega (arith, k)
      go (Some symbol) e ih = let k : i ≡ b.cell = ap (λ (x : FirstBearer). x.cell) (same_first (at_place i symbol) b e) in omega (arith, k)

  pub within : (said : ℕ × DescribedCell → Option ℕ) (i : ℕ) (cells : List DescribedCell) (b : FirstBearer) → found_from test said i cells ≡ Some b → b.cell < i + length cells
  within said i [] b e = absurd (none_some b e)
  within said i (c ∷ cells) b e = go (cond (test c) (said (i, c)) None) e (within said (suc i) cells b)
    where
      go : (o : Option ℕ) → or_else (option_map (at_place i) o) (found_from test said (suc i) cells) ≡ Some b → (found_from test said (suc i) cells ≡ Some b → b.cell < suc i + length cells) → b.cell < i + suc (length cells)
      go None e ih = let k = ih e in omega (arith, k)
      go (Some symbol) e ih = let k : i ≡ b.cell = ap (λ (x : FirstBearer). x.cell) (same_first (at_place i symbol) b e) in omega (arith, k)

  -- the one here is sooner than a later one
  here_first : (i symbol : ℕ) (later : Option FirstBearer) → ((b : FirstBearer) → later ≡ Some b → i ≤ b.cell) → Some (at_place i symbol) ≡ sooner (Some (at_place i symbol)) later
  here_first i symbol None f = refl
  here_first i symbol (Some b) f = ap (λ (t : Bool). Some (cond t b (at_place i symbol))) (sym (le-ltb b.cell i (f b refl)))

  here_sooner : (i symbol : ℕ) (later : Option FirstBearer) → ((b : FirstBearer) → later ≡ Some b → suc i ≤ b.cell) → Some (at_place i symbol) ≡ sooner later (Some (at_place i symbol))
  here_sooner i symbol None f = refl
  here_sooner i symbol (Some b) f = let lt = f b refl in ap (λ (t : Bool). Some (cond t (at_place i symbol) b)) (sym (lt-ltb i b.cell (omega (arith, lt))))

  pub both : (f g : ℕ × DescribedCell → Option ℕ) (i : ℕ) (cells : List DescribedCell)
      → found_from test (λ p. or_else (f p) (g p)) i cells ≡ sooner (found_from test f i cells) (found_from test g i cells)
  both f g i [] = refl
  both f g i (c ∷ cells) = go (test c) (f (i, c)) (g (i, c)) (both f g (suc i) cells)
    where
      later : (b : FirstBearer) → found_from test g (suc i) cells ≡ Some b → i ≤ b.cell
      later b e = let k = past g (suc i) cells b e in omega (arith, k)

      go : (t : Bool) (o q : Option ℕ) → found_from test (λ p. or_else (f p) (g p)) (suc i) cells ≡ sooner (found_from test f (suc i) cells) (found_from test g (suc i) cells)
          → or_else (option_map (at_place i) (cond t (or_else o q) None)) (found_from test (λ p. or_else (f p) (g p)) (suc i) cells)
          ≡ sooner (or_else (option_map (at_place i) (cond t o None)) (found_from test f (suc i) cells)) (or_else (option_map (at_place i) (cond t q None)) (found_from test g (suc i) cells))
      go false o q ih = ih
      go true None None ih = ih
      go true None (Some t) ih = here_sooner i t (found_from test f (suc i) cells) (past f (suc i) cells)
      go true (Some s) None ih = here_first i s (found_from test g (suc i) cells) later
      go true (Some s) (Some t) ih = here_first i s (Some (at_place i t)) (λ b e. let k : i ≡ b.cell = ap (λ (x : FirstBearer). x.cell) (same_first (at_place i t) b e) in omega (arith, k))

  -- what is said by the same
  pub said_same : (f g : ℕ × DescribedCell → Option ℕ) (i : ℕ) (cells : List DescribedCell) → ((p : ℕ × DescribedCell) → f p ≡ g p) → found_from test f i cells ≡ found_from test g i cells
  said_same f g i [] e = refl
  said_same f g i (c ∷ cells) e =
      ap (λ (o : Option ℕ). or_else (option_map (at_place i) (cond (test c) o None)) (found_from test f (suc i) cells)) (e (i, c))
      ∙ ap (or_else (option_map (at_place i) (cond (test c) (g (i, c)) None))) (said_same f g (suc i) cells e)

  pub nobody : (i : ℕ) (cells : List DescribedCell) → found_from test (answer_of []) i cells ≡ None
  nobody i [] = refl
  nobody i (c ∷ cells) = go (test c) (nobody (suc i) cells)
    where
      go : (t : Bool) → found_from test (answer_of []) (suc i) cells ≡ None → or_else (option_map (at_place i) (cond t None None)) (found_from test (answer_of []) (suc i) cells) ≡ None
      go true ih = ih
      go false ih = ih

or_assoc : (a b c : Option ℕ) → or_else a (or_else b c) ≡ or_else (or_else a b) c
or_assoc None b c = refl
or_assoc (Some x) b c = refl

pub or_none : (a : Option ℕ) → or_else a None ≡ a
or_none None = refl
or_none (Some x) = refl

pub answers_join : (xs ys : List Bearer) (p : ℕ × DescribedCell) → answer_of (xs ++ ys) p ≡ or_else (answer_of xs p) (answer_of ys p)
answers_join [] ys p = refl
answers_join (x ∷ xs) ys p = ap (or_else (answer x p)) (answers_join xs ys p) ∙ or_assoc (answer x p) (answer_of xs p) (answer_of ys p)

-- one more bearer
pub found_more : (test : DescribedCell → Bool) (cells : List DescribedCell) (xs : List Bearer) (x : Bearer)
    → found_from test (answer_of (xs ++ x ∷ [])) 0 cells ≡ sooner (found_from test (answer_of xs) 0 cells) (found_from test (answer x) 0 cells)
found_more test cells xs x =
    said_same test (answer_of (xs ++ x ∷ [])) (λ p. or_else (answer_of xs p) (answer x p)) 0 cells
    (λ p. answers_join xs (x ∷ []) p ∙ ap (or_else (answer_of xs p)) (or_none (answer x p)))
    ∙ both test (answer_of xs) (answer x) 0 cells

-- the sooner of those so far and of one more
pub first_so_far : (test : DescribedCell → Bool) (cells : List DescribedCell) (xs : List Bearer) (i : ℕ) (d : Bearer) → i < length xs → (old here : Option FirstBearer)
    → old ≡ found_from test (answer_of (take i xs)) 0 cells → here ≡ found_from test (answer (get_or xs i d)) 0 cells → sooner old here ≡ found_from test (answer_of (take (i + 1) xs)) 0 cells
first_so_far test cells xs i d lt old here so_far one =
    ap₂ sooner so_far one
    ∙ (sym (found_more test cells (take i xs) (get_or xs i d))
    ∙ ap (λ (bs : List Bearer). found_from test (answer_of bs) 0 cells) (sym (take_more xs i d lt)))

-- the cell that is found is there
pub within_some : (s : Sight) (said : ℕ × DescribedCell → Option ℕ) (o : Option FirstBearer) → o ≡ found_by s said → IfSome o (λ b. b.cell < length s.cells.now)
within_some s said None e = tt
within_some s said (Some b) e = let lt = within (sees_by s) said 0 s.cells.now b (sym e) in omega (arith, lt)
