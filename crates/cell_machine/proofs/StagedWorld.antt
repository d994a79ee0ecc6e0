-- The machine with staged cells in their places.
use Rattle.std.proofs.Common.{◌≡◌, refl, sym, ◌∙◌, ap, ap₂, subst, ◌≤◌, suc, true, List, [], ◌∷◌, map, length, inl, inr}
use Rattle.std.specs.Prelude.{nat_le, nat_lt}
use Rattle.std.proofs.lemmas.Bool.{leb-true}
use Rattle.std.proofs.lemmas.List.{length-map}
use Rattle.cell_num.specs.Lists.{each_pair, In}
use Rattle.cell_world.specs.World.{World, Cell, Standing}
use Rattle.cell_world.specs.declared.state.Standing.TheVariants.{Attached}
use Rattle.cell_world.specs.Names.{names_of, weak_definitions_of}
use Rattle.cell_world.specs.declared.layout.Starts.{Starts}
use Rattle.cell_num.proofs.Elements.{All-In, filter-Passes}
use Rattle.cell_lemmas.specs.Loads.{ManyTaken, placed_after, placed_cell, placed_cells}
use Rattle.cell_num.proofs.Sublists.{pairs-filter}
use Rattle.cell_space.specs.Machine.{called}
use Rattle.cell_space.specs.Joined.{placed_of}
use Rattle.cell_space.specs.declared.cell.SpaceCell.{SpaceCell}
use Rattle.cell_machine.specs.declared.staged.Staged.{Staged}
use Rattle.cell_machine.specs.Staged.{AreNewIn, IsStaged, arrivals}

length-placed : (starts : List Starts) (cells : List Cell) → length (placed_cells starts cells) ≡ length cells
length-placed [] cells = refl
length-placed (s ∷ starts) [] = refl
length-placed (s ∷ starts) (c ∷ cells) = ap suc (length-placed starts cells)

-- what doesn't hang on places is the same of cells in their places
pub kept_placed : {X : Type 0} (f : Cell → X) → ((s : Starts) (c : Cell) → f (placed_cell s c) ≡ f c) → (starts : List Starts) (cells : List Cell)
    → map f (placed_cells starts cells) ≡ map f cells
kept_placed f same [] cells = refl
kept_placed f same (s ∷ starts) [] = refl
kept_placed f same (s ∷ starts) (c ∷ cells) = ap₂ (λ x xs. x ∷ xs) (same s c) (kept_placed f same starts cells)

pub standing_placed : (starts : List Starts) (cells : List Cell) → ((c : Cell) → In c cells → c.standing ≡ Attached) → (c : Cell) → In c (placed_cells starts cells) → c.standing ≡ Attached
standing_placed [] cells all c i = all c i
standing_placed (s ∷ starts) [] all c i = absurd i
standing_placed (s ∷ starts) (d ∷ cells) all c (inl e) = ap (λ (x : Cell). x.standing) e ∙ all d (inl refl)
standing_placed (s ∷ starts) (d ∷ cells) all c (inr i) = standing_placed starts cells (λ x k. all x (inr k)) c i

-- attached cells are called by their numbers, namespaces, stems and names
pub arrivals_called : (cells : List Cell) → ((c : Cell) → In c cells → c.standing ≡ Attached) → arrivals (map placed_of cells) (map names_of cells) ≡ map called cells
arrivals_called [] all = refl
arrivals_called (c ∷ cells) all =
    ap₂ (λ (x : SpaceCell) (xs : List SpaceCell). x ∷ xs)
    (ap (λ (st : Standing). let x : SpaceCell = record { cell = c.id; ns = c.ns; stem = c.stem; state = st; names = names_of c; weak = weak_definitions_of c.object } in x) (sym (all c (inl refl))))
    (arrivals_called cells (λ x k. all x (inr k)))

module _ (u : World) (new : List Cell) (s : Staged) (st : IsStaged u new s) where
  -- the new cells in their places
  abbrev pub F : List Cell
  F = placed_cells st.starts new

  -- the machine with them, not linked yet
  abbrev pub W : World
  W = placed_after st.starts u new

  abbrev pub taken : ManyTaken
  taken = record { starts = st.starts; table = s.space.taken }

  pub new_count : length new ≡ length s.cells.items
  new_count = sym (length-placed st.starts new) ∙ (sym (length-map F placed_of) ∙ ap length (sym st.cells))

  pub standing : (c : Cell) → In c F → c.standing ≡ Attached
  standing = standing_placed st.starts new (All-In (λ (c : Cell). c.standing ≡ Attached) new st.attached)

  pub names_are : s.names.items ≡ map names_of F
  names_are = st.names ∙ sym (kept_placed names_of (λ s c. refl) st.starts new)

  -- what the new cells are called
  pub known_are : arrivals s.cells.items s.names.items ≡ map called F
  known_are =
      ap₂ arrivals st.cells names_are ∙ arrivals_called F standing

  module _ (there : AreNewIn u W F) where
    -- the new numbers are not below those that were given
    pub numbers_new : (c : Cell) → In c F → u.next_cell ≤ c.id.0
    numbers_new c k = leb-true u.next_cell c.id.0 (filter-Passes (λ (c : Cell). nat_le u.next_cell c.id.0) W.cells c (subst (λ (cs : List Cell). In c cs) (sym there.fresh) k))

    -- and they rise
    pub numbers_rise : each_pair (λ (a b : Cell). nat_lt a.id.0 b.id.0) F ≡ true
    numbers_rise =
        subst (λ (cs : List Cell). each_pair (λ (a b : Cell). nat_lt a.id.0 b.id.0) cs ≡ true) there.fresh
        (pairs-filter (λ (a b : Cell). nat_lt a.id.0 b.id.0) (λ (c : Cell). nat_le u.next_cell c.id.0) W.cells there.linkable.cell_order)
