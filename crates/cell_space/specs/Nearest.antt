-- The nearest cell that holds a name weakly, one namespace after the other.
--     weak_in ns state name cells           the first such cell of the namespace in that state, as the name's provider
--     nearest_in spaces state name cells    that of the first namespace that has one
--     nearest_aside spaces state name cells    the same for a cell that is put aside, among those of its group
use Rattle.std.specs.Prelude.{ℕ, ◌==◌, ◌&&◌, List, [], ◌∷◌, Option, None, filter_map, if◌then◌else◌}
use Rattle.cell_num.specs.Lists.{first, or_else}
use Rattle.cell_world.specs.World.{Standing}
use Rattle.cell_world.specs.declared.state.Standing.TheVariants.{Attached, Detached}
use Rattle.cell_world.specs.Names.{Provider, provider_at_by}
use Rattle.cell_space.specs.declared.cell.SpaceCell.{SpaceCell}
use Rattle.cell_space.specs.Named.{of_called, is_in}

abbrev pub weak_at : List ℕ → SpaceCell → Option Provider
weak_at name c = provider_at_by of_called of_called.weak_names name c

-- what the cell provides weakly, where it is in that state and in the namespace
abbrev pub weak_offer : ℕ → Standing → List ℕ → SpaceCell → Option Provider
weak_offer ns state name c = if is_in state c && c.ns == ns then weak_at name c else None

abbrev pub weak_in : ℕ → Standing → List ℕ → List SpaceCell → Option Provider
weak_in ns state name cells = first (filter_map (weak_offer ns state name) cells)

abbrev pub nearest_in : List ℕ → Standing → List ℕ → List SpaceCell → Option Provider
nearest_in [] state name cells = None
nearest_in (ns ∷ spaces) state name cells = or_else (weak_in ns state name cells) (nearest_in spaces state name cells)

-- for an attached cell there is none
abbrev pub nearest_aside : List ℕ → Standing → List ℕ → List SpaceCell → Option Provider
nearest_aside spaces Attached name cells = None
nearest_aside spaces (Detached k) name cells = nearest_in spaces (Detached k) name cells
