-- The new cells that are left, while those before them are attached.
use Rattle.std.proofs.Common.{◌≡◌, refl, sym, ap, ◌∙◌, subst, arith, ℕ, suc, ◌+◌, ◌<◌, ◌≤◌, false, cond, List, [], ◌∷◌, ◌++◌, Some, None, length, map, append_assoc, append-nil}
use Rattle.std.specs.Prelude.{All, ◌==◌, nat_lt}
use Rattle.std.proofs.lemmas.List.Elements.{All-head, All-tail}
use Rattle.std.proofs.lemmas.Bool.Decides.{nat_tests}
use Rattle.cell_world.specs.declared.state.Namespace.{Namespace}
use Rattle.cell_space.specs.declared.cell.SpaceCell.{SpaceCell}
use Rattle.cell_space.specs.Named.{cell_numbered, with_cell}
use Rattle.cell_commit.specs.declared.attach.Newcomer.{Newcomer}
use Rattle.cell_commit.specs.Cells.{AreFree, MayCome, arrived, name_count}

lower_differs : (a b : ℕ) → a < b → (a == b) ≡ false
lower_differs a b lt = grind (arith, nat_tests, lt)

not_higher : (a b : ℕ) → a < b → nat_lt b a ≡ false
not_higher a b lt = grind (arith, nat_tests, lt)

-- a number above all is no cell's
pub above_absent : (n : ℕ) (cells : List SpaceCell) → All (λ d. d.cell.0 < n) cells → cell_numbered cells n ≡ None
above_absent n [] above = refl
above_absent n (d ∷ cells) above =
    ap (λ b. cond b (Some d) (cell_numbered cells n)) (lower_differs d.cell.0 n (All-head (λ (d : SpaceCell). d.cell.0 < n) d cells above))
    ∙ above_absent n cells (All-tail (λ (d : SpaceCell). d.cell.0 < n) d cells above)

-- a cell of such a number stands last
pub above_last : (c : SpaceCell) (cells : List SpaceCell) → All (λ d. d.cell.0 < c.cell.0) cells → with_cell c cells ≡ cells ++ c ∷ []
above_last c [] above = refl
above_last c (d ∷ cells) above =
    ap (λ b. cond b (c ∷ d ∷ cells) (d ∷ with_cell c cells)) (not_higher d.cell.0 c.cell.0 (All-head (λ (d : SpaceCell). d.cell.0 < c.cell.0) d cells above))
    ∙ ap (λ (cs : List SpaceCell). d ∷ cs) (above_last c cells (All-tail (λ (d : SpaceCell). d.cell.0 < c.cell.0) d cells above))

module _ (left rest : List Newcomer) (c : Newcomer) (is : left ≡ c ∷ rest) where
  free : (spaces : List Namespace) (cells : List SpaceCell) → AreFree spaces cells left → AreFree spaces cells (c ∷ rest)
  free spaces cells are = subst (AreFree spaces cells) is are

  pub free_here : (spaces : List Namespace) (cells : List SpaceCell) → AreFree spaces cells left → MayCome spaces cells c
  free_here spaces cells are = (free spaces cells are).0

  pub free_more : (spaces same : List Namespace) (cells new : List SpaceCell) → same ≡ spaces → new ≡ cells ++ arrived c ∷ [] → AreFree spaces cells left → AreFree same new rest
  free_more spaces same cells new s e are =
      subst (λ (ns : List Namespace). AreFree ns new rest) (sym s)
      (subst (λ (cs : List SpaceCell). AreFree spaces cs rest) (sym e) (free spaces cells are).1)

  pub cells_more : (cells new all : List SpaceCell) → new ≡ cells ++ arrived c ∷ [] → cells ++ map arrived left ≡ all → new ++ map arrived rest ≡ all
  cells_more cells new all e before =
      ap (λ (cs : List SpaceCell). cs ++ map arrived rest) e
      ∙ append_assoc cells (arrived c ∷ []) (map arrived rest)
      ∙ ap (λ (ns : List Newcomer). cells ++ map arrived ns) (sym is)
      ∙ before

  pub count_here : length left ≡ suc (length rest)
  count_here = ap length is

  pub names_here : name_count left ≡ (length c.weak + length c.names) + name_count rest
  names_here = ap name_count is

pub cells_done : (cells all : List SpaceCell) (left : List Newcomer) → left ≡ [] → cells ++ map arrived left ≡ all → cells ≡ all
cells_done cells all left none before = sym (append-nil cells) ∙ ap (λ (ns : List Newcomer). cells ++ map arrived ns) (sym none) ∙ before

-- as many as there were
pub all_left : (left all : List Newcomer) (n : ℕ) → left ≡ all → length all ≤ n → length left ≤ n
all_left left all n e room = subst (λ (ns : List Newcomer). length ns ≤ n) (sym e) room

pub all_named : (left all : List Newcomer) (n : ℕ) → left ≡ all → length all + name_count all ≤ n → length left + name_count left ≤ n
all_named left all n e room = subst (λ (ns : List Newcomer). length ns + name_count ns ≤ n) (sym e) room
