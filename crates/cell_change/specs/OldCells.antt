-- Cells put aside for a change, as the spaces know them.
--     aside_where k p c        the cell, put aside by swap k where its number passes the test
--     IsPut before k p cells   the cells, so many of them put aside
--     among cells              the test for these cells
--     swaps_for cells          how many swaps putting them aside counts
--     IsAside before old m     the machine with the old cells put aside, by a swap that is counted if there are any, and with other room
--     AreAttached cells n      the cells of that number are attached
--     AreThere cells old       they are there, attached
--     CanReturn m old          the old cells may be attached again in m
use Rattle.std.specs.Prelude.{◌≡◌, ◌+◌, ℕ, Bool, List, [], ◌∷◌, Some, All, IsTrue, map, option_map, if◌then◌else◌}
use Rattle.cell_num.specs.declared.ids.CellId.{CellId}
use Rattle.cell_num.specs.Lists.{holds}
use Rattle.cell_space.specs.Named.{cell_numbered, is_numbered}
use Rattle.cell_world.specs.declared.state.Standing.TheVariants.{Attached, Detached}
use Rattle.cell_space.specs.declared.cell.SpaceCell.{SpaceCell}
use Rattle.cell_machine.specs.declared.machine.Machine.{Machine}
use Rattle.cell_machine.specs.Machine.{IsSound}
use Rattle.cell_machine.specs.Same.{without_counts}

abbrev pub aside_where : ℕ → (ℕ → Bool) → SpaceCell → SpaceCell
aside_where k p c = if p c.cell.0 then record c { state = Detached k } else c

abbrev pub IsPut : List SpaceCell → ℕ → (ℕ → Bool) → List SpaceCell → Type 0
IsPut before k p cells = cells ≡ map (aside_where k p) before

abbrev pub among : List CellId → ℕ → Bool
among cells n = holds (map (λ c. c.0) cells) n

-- where no cell is replaced, that is no swap
abbrev pub swaps_for : List CellId → ℕ
swaps_for [] = 0
swaps_for (c ∷ cells) = 1

-- each cell of that number is attached
abbrev pub AreAttached : List SpaceCell → ℕ → Type 0
AreAttached cells n = All (λ c. IsTrue (is_numbered n c) → c.state ≡ Attached) cells

abbrev pub AreThere : List SpaceCell → List CellId → Type 0
AreThere cells old = All (λ c. option_map (λ x. x.state) (cell_numbered cells c.0) ≡ Some Attached) old

pub record IsAside (before : Machine) (old : List CellId) (m : Machine) : Type 0 where
  pub cells : m.cells.items ≡ before.cells.items
  pub soft : m.soft.items ≡ before.soft.items
  pub next : m.next ≡ before.next
  pub swaps : m.swaps ≡ before.swaps + swaps_for old
  pub namespaces : m.spaces.namespaces ≡ before.spaces.namespaces
  pub known : IsPut before.spaces.cells (before.swaps + 1) (among old) m.spaces.cells
  pub space : m.space ≡ before.space
  pub spare : ℕ
  pub memory : m.memory ≡ record before.memory { spare = spare }
  pub sections : m.graph.sections ≡ before.graph.sections
  pub rows : m.graph.rows ≡ before.graph.rows
  pub tasks : m.tasks ≡ before.tasks

-- the machine was sound before they were put aside; only counts may have risen since
pub record CanReturn (m : Machine) (old : List CellId) : Type 0 where
  pub before : Machine
  pub sound : IsSound before
  pub there : AreThere before.spaces.cells old
  pub aside : IsAside before old (without_counts before m)
