-- Namespaces, and the cells in them.
use Rattle.std.specs.Prelude.{not, ◌&&◌, find, ◌≡◌, ◌<◌, ◌≤◌, ℕ, List, [], ◌∷◌, Option, Some, None, All, length, option_and_then, IsSome}
use Rattle.cell_world.specs.declared.state.Namespace.{Namespace}
use Rattle.cell_world.specs.Names.{Provider, chain, space_named}
use Rattle.cell_world.specs.declared.state.Standing.TheVariants.{Attached}
use Rattle.cell_space.specs.declared.cell.SpaceCell.{SpaceCell}
use Rattle.cell_space.specs.declared.provider.Scope.{Scope}
use Rattle.cell_space.specs.declared.provider.Scope.TheVariants.{Space, Cell}
use Rattle.cell_space.specs.Named.{provider_for, cell_numbered, is_numbered, is_in, clash_stem, clash_name}
use Rattle.cell_space.specs.declared.index.Holder.{Holder}
use Rattle.cell_space.specs.Rising.{IsRising}
use Rattle.cell_space.specs.Index.{IsWhole}
use Rattle.cell_space.specs.Rooted.{AreRooted}

-- the namespaces by number, the cells by rising numbers, and how many more cells there is room for, and more stems and names, each of which has two entries in the index
pub record SpacesState : Type 0 where
  pub namespaces : List Namespace
  pub cells : List SpaceCell
  pub spare_cells : ℕ
  pub spare_names : ℕ

-- `k` alone
abbrev pub kernel : List Namespace
kernel = record { name = 107 ∷ []; parent = None } ∷ []

-- there is a cell of that number
abbrev pub HasCell : SpacesState → ℕ → Type 0
HasCell s number = IsSome (cell_numbered s.cells number)

-- no attached cell on one path with the cell has its stem or one of its names
pub record IsFree (s : SpacesState) (c : SpaceCell) : Type 0 where
  pub stem : clash_stem s.namespaces c.ns c.stem s.cells ≡ None
  pub names : All (λ a. clash_name s.namespaces c.ns a.name s.cells ≡ None) c.names

abbrev pub HasAttached : SpacesState → ℕ → Type 0
HasAttached s number = IsSome (find (λ c. is_numbered number c && is_in Attached c) s.cells)

abbrev pub HasDetached : SpacesState → ℕ → Type 0
HasDetached s number = IsSome (find (λ c. is_numbered number c && not (is_in Attached c)) s.cells)

-- no attached cell on one path with that cell has its stem or one of its names
abbrev pub HasNoRival : SpacesState → ℕ → Type 0
HasNoRival s number = (c : SpaceCell) → cell_numbered s.cells number ≡ Some c → IsFree s c

-- the namespaces are a tree, at most 256, and each cell stands in one of them
pub record AreSound (spaces : List Namespace) (cells : List SpaceCell) : Type 0 where
  pub rooted : AreRooted spaces
  pub few : length spaces ≤ 256
  pub inside : All (λ c. c.ns < length spaces) cells

-- and the index of the cells answers for each
pub record AreKept (spaces : List Namespace) (cells : List SpaceCell) (index : ℕ → ℕ → Option Holder) : Type 0 where
  pub sound : AreSound spaces cells
  pub rising : IsRising cells
  pub whole : IsWhole index cells

-- the namespace or the cell is there
abbrev pub IsThere : SpacesState → Scope → Type 0
IsThere s (Space ns) = ns < length s.namespaces
IsThere s (Cell id) = HasCell s id.0

abbrev pub provider_in : SpacesState → Scope → List ℕ → Option Provider
provider_in s (Space ns) name = provider_for (chain s.namespaces ns) Attached name s.cells
provider_in s (Cell id) name =
    option_and_then (λ c. provider_for (chain s.namespaces c.ns) c.state name s.cells) (cell_numbered s.cells id.0)

abbrev pub namespace_named : List Namespace → List ℕ → Option ℕ
namespace_named spaces name = space_named spaces name
