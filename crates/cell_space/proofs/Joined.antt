-- Places and names of the same cells.
use Rattle.std.proofs.Common.{◌≡◌, refl, sym, ◌∙◌, ap, ap₂, ℕ, Bool, true, false, cond, List, [], ◌∷◌, ◌++◌, map, length}
use Rattle.std.specs.Prelude.{Option, Some, ◌==◌, drop, find, option_map}
use Rattle.std.proofs.lemmas.List.{map-append}
use Rattle.cell_world.specs.declared.state.NewCell.{NewCell}
use Rattle.cell_world.specs.World.{Alias, Cell}
use Rattle.cell_world.specs.Names.{definitions_of}
use Rattle.cell_space.specs.Machine.{called}
use Rattle.cell_space.specs.Joined.{AreJoined, cells_of, joined, placed_of}
use Rattle.cell_space.specs.declared.cell.SpaceCell.{SpaceCell}

behind : {X : Type 0} (xs ys : List X) → drop (length xs) (xs ++ ys) ≡ ys
behind [] ys = refl
behind (x ∷ xs) ys = behind xs ys

-- a cell is what its place and its names say
back : (c : Cell) → joined c.placed (called c) ≡ c
back c =
    ap (λ (aliases : List Alias). record { placed = c.placed; aliases = aliases; standing = c.standing }) (behind (definitions_of c.object) c.aliases)

-- and so are all cells
pub all_back : (cells : List Cell) → cells_of (map placed_of cells) (map called cells) ≡ cells
all_back [] = refl
all_back (c ∷ cells) = ap₂ (λ (x : Cell) (xs : List Cell). x ∷ xs) (back c) (all_back cells)

-- parts that are those of these cells
pub cells_are : (cells : List Cell) (items : List NewCell) (known : List SpaceCell) → items ≡ map placed_of cells → known ≡ map called cells → cells_of items known ≡ cells
cells_are cells items known i k = ap₂ cells_of i k ∙ all_back cells

-- they are joined
pub joined_by : (cells : List Cell) (items : List NewCell) (known : List SpaceCell) → items ≡ map placed_of cells → known ≡ map called cells → AreJoined items known
joined_by cells items known i k =
    let are = cells_are cells items known i k in
    record { placed = ap (map placed_of) are ∙ sym i; called = ap (map called) are ∙ sym k }

-- some cells, and then others
module _ (items more : List NewCell) (known others : List SpaceCell) (first : AreJoined items known) (second : AreJoined more others) where
  both_placed : items ++ more ≡ map placed_of (cells_of items known ++ cells_of more others)
  both_placed =
      ap₂ (λ (xs ys : List NewCell). xs ++ ys) (sym first.placed) (sym second.placed)
      ∙ sym (map-append placed_of (cells_of items known) (cells_of more others))

  both_called : known ++ others ≡ map called (cells_of items known ++ cells_of more others)
  both_called =
      ap₂ (λ (xs ys : List SpaceCell). xs ++ ys) (sym first.called) (sym second.called)
      ∙ sym (map-append called (cells_of items known) (cells_of more others))

  pub cells_both : cells_of (items ++ more) (known ++ others) ≡ cells_of items known ++ cells_of more others
  cells_both = cells_are (cells_of items known ++ cells_of more others) (items ++ more) (known ++ others) both_placed both_called

  pub joined_both : AreJoined (items ++ more) (known ++ others)
  joined_both = joined_by (cells_of items known ++ cells_of more others) (items ++ more) (known ++ others) both_placed both_called

abbrev pub is_numbered : ℕ → NewCell → Bool
is_numbered n c = c.id.0 == n

one_found : (b : Bool) (c : Cell) (found : Option Cell) (rest : Option NewCell) → option_map placed_of found ≡ rest → option_map placed_of (cond b (Some c) found) ≡ cond b (Some c.placed) rest
one_found true c found rest e = refl
one_found false c found rest e = e

-- cells are found by their places
pub found_placed : (n : ℕ) (cells : List Cell) → option_map placed_of (find (λ c. c.id.0 == n) cells) ≡ find (is_numbered n) (map placed_of cells)
found_placed n [] = refl
found_placed n (c ∷ cells) = one_found (c.id.0 == n) c (find (λ c. c.id.0 == n) cells) (find (is_numbered n) (map placed_of cells)) (found_placed n cells)
