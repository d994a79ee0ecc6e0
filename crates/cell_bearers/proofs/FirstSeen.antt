-- The first cell of an object that is seen, and the cell of an alias.
use Rattle.std.proofs.Common.{◌≡◌, refl, sym, ◌∙◌, ap, arith, ℕ, zero, suc, ◌+◌, ◌<◌, ◌==◌, Bool, true, false, cond, ◌&&◌, List, [], ◌∷◌, length, get_or, drop, map, replicate, add-one}
use Rattle.std.specs.Prelude.{Option, Some, None, option_map, slice_get, slice_set, unwrap_or}
use Rattle.std.proofs.lemmas.Option.{slice_get-map}
use Rattle.std.proofs.lemmas.Bool.{eq-eqb, eqb-true, eqb-false, ne_eqb}
use Rattle.std.proofs.lemmas.List.{get_or-map, get_or-set_same, get_or-set_other}
use Rattle.cell_num.specs.Lists.{or_else, where_true}
use Rattle.cell_described.specs.declared.cell.DescribedCell.{DescribedCell}
use Rattle.cell_bearers.specs.Bearers.{answer}
use Rattle.cell_bearers.specs.Found.{at_place, found_by, found_from}
use Rattle.cell_bearers.specs.Seeing.{first_at, first_from, seen_at}
use Rattle.cell_bearers.specs.Sight.{IsSight, sees_by}
use Rattle.cell_bearers.specs.declared.bearer.Bearer.{Bearer}
use Rattle.cell_bearers.specs.declared.bearer.Bearer.TheVariants.{Object as ObjectBearer, Cell as CellBearer}
use Rattle.cell_bearers.specs.declared.first.FirstBearer.{FirstBearer}
use Rattle.cell_bearers.specs.declared.sight.Sight.{Sight}
use Rattle.cell_bearers.proofs.Reading.{begins}

-- ---- the table
pub none_yet : (n o : ℕ) → first_at (replicate n None) o ≡ None
none_yet zero o = refl
none_yet (suc n) zero = refl
none_yet (suc n) (suc o) = none_yet n o

pub put_here : (firsts : List (Option ℕ)) (object place o : ℕ) → object < length firsts → first_at (slice_set firsts object (Some place)) o ≡ cond (object == o) (Some place) (first_at firsts o)
put_here firsts object place o lt = go (object == o) refl
  where
    go : (t : Bool) → (object == o) ≡ t → first_at (slice_set firsts object (Some place)) o ≡ cond t (Some place) (first_at firsts o)
    go true e = ap (first_at (slice_set firsts object (Some place))) (sym (eqb-true object o e)) ∙ get_or-set_same firsts object (Some place) None lt
    go false e = get_or-set_other firsts object o (Some place) None (λ same. eqb-false object o e (sym same))

pub seen_here : (test : DescribedCell → Bool) (seen : List Bool) (cells : List DescribedCell) → seen ≡ map test cells → (i : ℕ) (c : DescribedCell) → i < length cells → c ≡ get_or cells i c → (d : Bool) → get_or seen i d ≡ test c
seen_here test seen cells are i c lt here d = ap (λ (marks : List Bool). get_or marks i d) are ∙ (get_or-map test cells i c d lt ∙ ap test (sym here))

module _ (test : DescribedCell → Bool) where
  -- one more cell, before those so far
  pub first_more : (read xs : List DescribedCell) → read ≡ xs → (i : ℕ) (c : DescribedCell) → i < length read → c ≡ get_or read i c → (o : ℕ)
      → first_from test o i (drop i xs) ≡ cond (test c && c.object == o) (Some i) (first_from test o (i + 1) (drop (i + 1) xs))
  first_more read xs same i c lt here o =
      ap (first_from test o i) (begins read xs same i c lt here)
      ∙ ap (λ (n : ℕ). cond (test c && c.object == o) (Some i) (first_from test o n (drop (i + 1) xs))) (sym (add-one i))

  -- ---- an object's symbol is said of its first cell
  pub found_object : (object symbol i : ℕ) (cells : List DescribedCell)
      → found_from test (answer (ObjectBearer object symbol)) i cells ≡ option_map (λ cell. at_place cell symbol) (first_from test object i cells)
  found_object object symbol i [] = refl
  found_object object symbol i (c ∷ cells) = go (test c) (c.object == object) (found_object object symbol (suc i) cells)
    where
      go : (t u : Bool) → found_from test (answer (ObjectBearer object symbol)) (suc i) cells ≡ option_map (λ cell. at_place cell symbol) (first_from test object (suc i) cells)
          → or_else (option_map (at_place i) (cond t (where_true u symbol) None)) (found_from test (answer (ObjectBearer object symbol)) (suc i) cells)
          ≡ option_map (λ cell. at_place cell symbol) (cond (t && u) (Some i) (first_from test object (suc i) cells))
      go true true ih = refl
      go true false ih = ih
      go false u ih = ih

  -- ---- an alias is its cell's
  module _ (cell symbol : ℕ) where
    elsewhere : (t : Bool) (i : ℕ) → (i ≡ cell → ⊥) → (rest whole : Option FirstBearer) → rest ≡ whole
        → or_else (option_map (at_place i) (cond t (where_true (i == cell) symbol) None)) rest ≡ whole
    elsewhere true i differs rest whole e = ap (λ (u : Bool). or_else (option_map (at_place i) (where_true u symbol)) rest) (ne_eqb i cell differs) ∙ e
    elsewhere false i differs rest whole e = e

    before : (i : ℕ) (cells : List DescribedCell) → cell < i → found_from test (answer (CellBearer cell symbol)) i cells ≡ None
    before i [] lt = refl
    before i (c ∷ cells) lt = elsewhere (test c) i (λ same. absurd (omega (arith, lt, same))) _ None (before (suc i) cells (omega (arith, lt)))

    pub found_cell : (i j : ℕ) (cells : List DescribedCell) → cell ≡ i + j → found_from test (answer (CellBearer cell symbol)) i cells ≡ cond (seen_at test cells j) (Some (at_place cell symbol)) None
    found_cell i j [] e = refl
    found_cell i zero (c ∷ cells) e = go (test c)
      where
        is : i ≡ cell
        is = omega (arith, e)

        rest : found_from test (answer (CellBearer cell symbol)) (suc i) cells ≡ None
        rest = before (suc i) cells (omega (arith, e))

        go : (t : Bool) → or_else (option_map (at_place i) (cond t (where_true (i == cell) symbol) None)) (found_from test (answer (CellBearer cell symbol)) (suc i) cells) ≡ cond t (Some (at_place cell symbol)) None
        go true =
            ap (λ (u : Bool). or_else (option_map (at_place i) (where_true u symbol)) (found_from test (answer (CellBearer cell symbol)) (suc i) cells)) (eq-eqb i cell is)
            ∙ ap (λ (n : ℕ). Some (at_place n symbol)) is
        go false = rest
    found_cell i (suc j) (c ∷ cells) e = elsewhere (test c) i (λ same. absurd (omega (arith, e, same))) _ _ (found_cell (suc i) j cells (omega (arith, e)))

-- whether a cell is seen, by the table
pub marked : (s : Sight) → IsSight s → (place : ℕ) → unwrap_or (slice_get s.seen.items place) false ≡ seen_at (sees_by s) s.cells.now place
marked s is place = ap (λ (marks : List Bool). unwrap_or (slice_get marks place) false) is.seen ∙ ap (λ (o : Option Bool). unwrap_or o false) (slice_get-map (sees_by s) s.cells.now place)

module _ (s : Sight) (b : Bearer) where
  -- a bearer's first cell that is seen
  pub object_found : IsSight s → (object symbol : ℕ) → b ≡ ObjectBearer object symbol → (o : Option ℕ) → o ≡ first_at s.firsts.items object
      → option_map (λ cell. at_place cell symbol) o ≡ found_by s (answer b)
  object_found is object symbol of o e =
      ap (option_map (λ cell. at_place cell symbol)) (e ∙ is.firsts object)
      ∙ (sym (found_object (sees_by s) object symbol 0 s.cells.now) ∙ ap (λ (x : Bearer). found_by s (answer x)) (sym of))

  pub cell_found : (cell symbol : ℕ) → b ≡ CellBearer cell symbol → (t : Bool) → t ≡ seen_at (sees_by s) s.cells.now cell → cond t (Some (at_place cell symbol)) None ≡ found_by s (answer b)
  cell_found cell symbol of t e =
      ap (λ (u : Bool). cond u (Some (at_place cell symbol)) None) e
      ∙ (sym (found_cell (sees_by s) cell symbol 0 cell s.cells.now (omega arith)) ∙ ap (λ (x : Bearer). found_by s (answer x)) (sym of))
