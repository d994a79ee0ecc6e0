-- One more new cell.
use Rattle.std.proofs.Common.{◌≡◌, refl, sym, ◌∙◌, ap, ap₂, arith, ℕ, zero, suc, ◌+◌, ◌<◌, ◌≤◌, List, [], ◌∷◌, ◌++◌, get_or, length, map, append_assoc, length-append}
use Rattle.std.specs.Prelude.{Some, slice_get}
use Rattle.std.proofs.lemmas.List.{length-map, map-append}
use Rattle.std.proofs.lemmas.List.Elements.{All-push, All-same, All-weaker}
use Rattle.cell_num.specs.declared.ids.CellId.{CellId}
use Rattle.cell_world.specs.declared.state.NewCell.{NewCell}
use Rattle.cell_world.specs.Coherent.{IsLoadable}
use Rattle.cell_world.specs.Names.{definitions_of, weak_definitions_of}
use Rattle.cell_world.specs.World.{Alias, Cell}
use Rattle.cell_world.specs.declared.state.Standing.TheVariants.{Attached}
use Rattle.cell_space.specs.declared.cell.SpaceCell.{SpaceCell}
use Rattle.cell_space.specs.Joined.{placed_of}
use Rattle.cell_space.specs.Machine.{called}
use Rattle.cell_space.specs.Spaces.{SpacesState}
use Rattle.cell_space.proofs.Joined.{cells_are, joined_by}
use Rattle.cell_gather.specs.declared.gathering.Gathered.{Gathered}
use Rattle.cell_gather.specs.Growing.{IsGrowing, new_of}

-- the row of a cell in the spaces
abbrev pub row_of : CellId → ℕ → List ℕ → List Alias → List Alias → SpaceCell
row_of id ns stem names weak = record { cell = id; ns = ns; stem = stem; state = Attached; names = names; weak = weak }

-- the cell, attached, with these aliases
abbrev pub under : NewCell → List Alias → Cell
under c aliases = record { placed = c; aliases = aliases; standing = Attached }

row_is : (c : NewCell) (aliases names weak : List Alias) → names ≡ definitions_of c.object ++ aliases → weak ≡ weak_definitions_of c.object → row_of c.id c.ns c.stem names weak ≡ called (under c aliases)
row_is c aliases names weak e f = ap₂ (row_of c.id c.ns c.stem) e f

one_longer : {X : Type 0} (xs : List X) (x : X) → length (xs ++ x ∷ []) ≡ suc (length xs)
one_longer xs x = let l = length-append xs (x ∷ []) in omega arith

-- each place has its cell
pub as_many : (spaces : SpacesState) (next : ℕ) (g : Gathered) → IsGrowing spaces next g → length g.cells.items ≡ length (new_of g)
as_many spaces next g growing = ap length (sym growing.joined.placed) ∙ length-map (new_of g) placed_of

-- the new cell of the place
pub cell_there : (spaces : SpacesState) (next : ℕ) (g : Gathered) → IsGrowing spaces next g → (place : ℕ) (p : NewCell) → place < length (new_of g) → p ≡ get_or g.cells.items place p
    → (c : Cell) × (slice_get (new_of g) place ≡ Some c) × (c.placed ≡ p)
cell_there spaces next g growing place p lt at = by (new_of g) place lt (at ∙ ap (λ (items : List NewCell). get_or items place p) (sym growing.joined.placed))
  where
    by : (cells : List Cell) (k : ℕ) → k < length cells → p ≡ get_or (map placed_of cells) k p → (c : Cell) × (slice_get cells k ≡ Some c) × (c.placed ≡ p)
    by [] k h e = absurd (omega arith)
    by (c ∷ cells) zero h e = (c, refl, sym e)
    by (c ∷ cells) (suc k) h e = by cells k (omega (arith, h)) e

-- numbers go on in order
numbered_more : (from : ℕ) (cells : List Cell) (c : Cell) → ((k : ℕ) (d : Cell) → slice_get cells k ≡ Some d → d.id.0 ≡ from + k) → c.id.0 ≡ from + length cells
    → (k : ℕ) (d : Cell) → slice_get (cells ++ c ∷ []) k ≡ Some d → d.id.0 ≡ from + k
numbered_more from [] c all is zero d e = let same : c ≡ d = cc in ap (λ (x : Cell). x.id.0) (sym same) ∙ is
numbered_more from [] c all is (suc k) d e = absurd (cc e)
numbered_more from (x ∷ cells) c all is zero d e = all zero d e
numbered_more from (x ∷ cells) c all is (suc k) d e =
    let h = numbered_more (suc from) cells c (λ j y at. let g = all (suc j) y at in omega (arith, g)) (omega (arith, is)) k d e in omega (arith, h)

module _ (spaces : SpacesState) (next : ℕ) (old new : Gathered) (c : NewCell) (aliases names weak : List Alias) (growing : IsGrowing spaces next old) (named : names ≡ definitions_of c.object ++ aliases) (held : weak ≡ weak_definitions_of c.object)
    (rows : new.ahead.fresh ≡ old.ahead.fresh ++ row_of c.id c.ns c.stem names weak ∷ []) (cells : new.cells.items ≡ old.cells.items ++ c ∷ []) where
  abbrev with_one : List Cell
  with_one = new_of old ++ under c aliases ∷ []

  items_are : new.cells.items ≡ map placed_of with_one
  items_are =
      cells
      ∙ ap (λ (all : List NewCell). all ++ c ∷ []) (sym growing.joined.placed)
      ∙ sym (map-append placed_of (new_of old) (under c aliases ∷ []))

  fresh_are : new.ahead.fresh ≡ map called with_one
  fresh_are =
      rows
      ∙ ap (λ (all : List SpaceCell). all ++ row_of c.id c.ns c.stem names weak ∷ []) (sym growing.joined.called)
      ∙ ap (λ (row : SpaceCell). map called (new_of old) ++ row ∷ []) (row_is c aliases names weak named held)
      ∙ sym (map-append called (new_of old) (under c aliases ∷ []))

  pub one_more : new_of new ≡ with_one
  one_more = cells_are with_one new.cells.items new.ahead.fresh items_are fresh_are

  pub grown_by_one : c.ns < length spaces.namespaces → c.id.0 ≡ next + length (new_of old) → length spaces.cells + length (new_of old) < 1024 → IsLoadable c.object
      → new.ahead.namespaces ≡ old.ahead.namespaces → new.ahead.present ≡ old.ahead.present
      → new.ahead.cells ≡ old.ahead.cells ++ row_of c.id c.ns c.stem names weak ∷ []
      → IsGrowing spaces next new
  grown_by_one there number room loadable same_spaces same_present all_rows =
      let cs : List Cell = new_of old in
      let longer : length with_one ≡ suc (length cs) = one_longer cs (under c aliases) in
      let long : length (new_of new) ≡ suc (length cs) = ap length one_more ∙ longer in
      record {
        namespaces = same_spaces ∙ growing.namespaces;
        present = same_present ∙ growing.present;
        cells =
            all_rows
            ∙ ap (λ (all : List SpaceCell). all ++ row_of c.id c.ns c.stem names weak ∷ []) growing.cells
            ∙ append_assoc spaces.cells (map called cs) (row_of c.id c.ns c.stem names weak ∷ [])
            ∙ ap (λ (row : SpaceCell). spaces.cells ++ (map called cs ++ row ∷ [])) (row_is c aliases names weak named held)
            ∙ ap (λ (all : List SpaceCell). spaces.cells ++ all) (sym (map-append called cs (under c aliases ∷ [])) ∙ ap (map called) (sym one_more));
        joined = joined_by with_one new.cells.items new.ahead.fresh items_are fresh_are;
        attached = All-same (λ (d : Cell). d.standing ≡ Attached) (new_of new) with_one one_more (All-push (λ (d : Cell). d.standing ≡ Attached) cs (under c aliases) growing.attached refl);
        loadable = All-same (λ (d : NewCell). IsLoadable d.object) new.cells.items (old.cells.items ++ c ∷ []) cells (All-push (λ (d : NewCell). IsLoadable d.object) old.cells.items c growing.loadable loadable);
        inside = All-same (λ (d : Cell). d.ns < length spaces.namespaces) (new_of new) with_one one_more (All-push (λ (d : Cell). d.ns < length spaces.namespaces) cs (under c aliases) growing.inside there);
        above = All-same (λ (d : Cell). next ≤ d.id.0) (new_of new) with_one one_more (All-push (λ (d : Cell). next ≤ d.id.0) cs (under c aliases) growing.above (omega (arith, number)));
        below =
            All-same (λ (d : Cell). d.id.0 < next + length (new_of new)) (new_of new) with_one one_more
            (All-push (λ (d : Cell). d.id.0 < next + length (new_of new)) cs (under c aliases)
            (All-weaker (λ (d : Cell). d.id.0 < next + length cs) (λ (d : Cell). d.id.0 < next + length (new_of new)) (λ d lt. omega (arith, lt, long)) cs growing.below)
            (omega (arith, number, long)));
        numbered = λ k d at. numbered_more next cs (under c aliases) growing.numbered number k d (ap (λ (all : List Cell). slice_get all k) (sym one_more) ∙ at);
        few = λ some. omega (arith, long, room);
      }
