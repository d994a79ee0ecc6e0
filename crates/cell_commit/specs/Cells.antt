-- What a commit makes of the list of sections, and of the cells that take part in names.
--     keys_in c, section_count cells    the keys of a cell's sections; how many sections the cells have
--     AreAbove keys cells               each cell's number is above all before it, and its sections rise
--     arrived c, name_count cells       the new cell as the spaces have it; how many names the new cells have
--     AreFree spaces cells new          each new cell clashes with none before it, and stands in a namespace that is there
use Rattle.std.specs.Prelude.{◌<◌, ◌+◌, ℕ, List, [], ◌∷◌, ◌++◌, All, length, map}
use Rattle.std.specs.List.Sorted.{IsStrictlyIncreasing}
use Rattle.cell_num.specs.declared.ids.SecKey.{SecKey}
use Rattle.cell_world.specs.declared.state.Namespace.{Namespace}
use Rattle.cell_world.specs.World.{key_of}
use Rattle.cell_space.specs.Spaces.{IsFree, SpacesState}
use Rattle.cell_world.specs.declared.state.Standing.TheVariants.{Attached}
use Rattle.cell_space.specs.declared.cell.SpaceCell.{SpaceCell}
use Rattle.cell_commit.specs.declared.sections.CellSections.{CellSections}
use Rattle.cell_commit.specs.declared.attach.Newcomer.{Newcomer}

abbrev pub keys_in : CellSections → List SecKey
keys_in c = map (key_of c.cell.0) c.sections.items

abbrev pub section_count : List CellSections → ℕ
section_count [] = 0
section_count (c ∷ cells) = length c.sections.items + section_count cells

abbrev pub AreAbove : List SecKey → List CellSections → Type 0
AreAbove keys [] = Unit {0}
AreAbove keys (c ∷ cells) =
    All (λ k. k.cell.0 < c.cell.0) keys × IsStrictlyIncreasing c.sections.items × AreAbove (keys ++ keys_in c) cells

abbrev pub arrived : Newcomer → SpaceCell
arrived c = record { cell = c.cell; ns = c.ns; stem = c.stem; state = Attached; names = c.names; weak = c.weak }

abbrev pub name_count : List Newcomer → ℕ
name_count [] = 0
name_count (c ∷ new) = (length c.weak + length c.names) + name_count new

-- the spaces, whatever room there is
abbrev pub with_no_room : List Namespace → List SpaceCell → SpacesState
with_no_room spaces cells = record { namespaces = spaces; cells = cells; spare_cells = 0; spare_names = 0 }

pub record MayCome (spaces : List Namespace) (cells : List SpaceCell) (c : Newcomer) : Type 0 where
  pub above : All (λ d. d.cell.0 < c.cell.0) cells
  pub inside : c.ns < length spaces
  pub free : IsFree (with_no_room spaces cells) (arrived c)

abbrev pub AreFree : List Namespace → List SpaceCell → List Newcomer → Type 0
AreFree spaces cells [] = Unit {0}
AreFree spaces cells (c ∷ new) = MayCome spaces cells c × AreFree spaces (cells ++ arrived c ∷ []) new
