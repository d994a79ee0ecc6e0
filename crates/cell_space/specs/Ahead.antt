-- The spaces as they would be with new cells.
--     AheadState                      the spaces with the new cells, which stand behind the present ones
--     with_fresh present fresh        the present spaces with new cells
--     has_stem_in spaces stem cells   an attached cell in one of the namespaces has the stem
--     is_there_in spaces stem cells   the same, asked of one namespace after the other
use Rattle.std.specs.Prelude.{◌≡◌, ◌++◌, ℕ, Bool, true, List, Option, All, is_some}
use Rattle.std.specs.List.{list_any}
use Rattle.cell_world.specs.Names.{has_stem_by}
use Rattle.cell_world.specs.declared.state.Namespace.{Namespace}
use Rattle.cell_world.specs.declared.state.Standing.TheVariants.{Attached}
use Rattle.cell_space.specs.declared.cell.SpaceCell.{SpaceCell}
use Rattle.cell_space.specs.declared.index.Holder.{Holder}
use Rattle.cell_space.specs.Named.{of_called, is_in, cell_at}
use Rattle.cell_space.specs.Spaces.{SpacesState, AreKept}

-- all of it, and the present and the new ones of its cells
pub record AheadState : Type 0 where
  pub spaces : SpacesState
  pub open spaces use *
  pub present : List SpaceCell
  pub fresh : List SpaceCell

abbrev pub with_fresh : SpacesState → List SpaceCell → AheadState
with_fresh spaces fresh =
    record {
      spaces = record { namespaces = spaces.namespaces; cells = spaces.cells ++ fresh; spare_cells = 0; spare_names = 0 };
      present = spaces.cells;
      fresh = fresh;
    }

-- the new cells stand in the namespaces of the present ones, all attached, and the index answers for each
pub record AreAhead (present : SpacesState) (namespaces : List Namespace) (fresh : List SpaceCell) (index : ℕ → ℕ → Option Holder) : Type 0 where
  pub same : namespaces ≡ present.namespaces
  pub kept : AreKept namespaces fresh index
  pub attached : All (λ c. is_in Attached c ≡ true) fresh

abbrev pub has_stem_in : List ℕ → List ℕ → List SpaceCell → Bool
has_stem_in spaces stem cells = has_stem_by of_called spaces stem cells

abbrev pub is_there_in : List ℕ → List ℕ → List SpaceCell → Bool
is_there_in spaces stem cells = list_any (λ ns. is_some (cell_at ns stem cells)) spaces
