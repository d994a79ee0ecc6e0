-- Cells by what they are called, and who provides a name.
--     is_in state c                      the cell is in that state
--     cell_numbered cells n              the cell of that number
--     of_called                          what the rules on names ask of a cell, by what it is called
--     first_provider spaces state name cells   the first cell in that state, in one of the namespaces, that has the name
--     strong_provider spaces state name cells  the strong holder for a cell in that state
--     weak_provider spaces state name cells    the weak one
--     provider_for spaces state name cells     who provides the name for such a cell: a strong holder, or else a weak one
--     rivals spaces ns cells             the attached cells on one path with the namespace
--     with_cell c cells                  one more cell, before those of higher numbers
--     with_name n a cells                the cell of that number with one more name
use Rattle.std.specs.Prelude.{◌≡◌, IsSomeAnd, ◌++◌, ℕ, ◌==◌, nat_lt, Bool, false, not, ◌&&◌, List, [], ◌∷◌, Option, None, map, filter, find, option_map, if◌then◌else◌}
use Rattle.cell_num.specs.Lists.{holds}
use Rattle.cell_world.specs.declared.state.Namespace.{Namespace}
use Rattle.cell_world.specs.World.{Alias, Standing, is_attached, is_of_group}
use Rattle.cell_world.specs.declared.state.Standing.TheVariants.{Attached, Detached}
use Rattle.cell_world.specs.Names.{Naming, Provider, provider_at_by, first_provider_by, strong_by, weak_by, provider_by, is_rival_by, rivals_by, clash_stem_by, clash_name_by, cell_at_by, has_name}
use Rattle.cell_space.specs.declared.cell.SpaceCell.{SpaceCell}
use Rattle.cell_space.specs.declared.provider.Provider.{Provider as ProviderFound}
use Rattle.cell_num.specs.declared.ids.CellId.{CellId}

-- the rules on names, asked of what is known of a cell
abbrev pub of_called : Naming SpaceCell
of_called =
    record {
      number = λ c. c.cell.0;
      ns = λ c. c.ns;
      stem = λ c. c.stem;
      names = λ c. c.names;
      weak_names = λ c. c.weak;
      standing = λ c. c.state;
    }

abbrev pub is_state : Standing → Standing → Bool
is_state Attached state = is_attached state
is_state (Detached k) state = is_of_group k state

abbrev pub is_in : Standing → SpaceCell → Bool
is_in state c = is_state state c.state

abbrev pub is_numbered : ℕ → SpaceCell → Bool
is_numbered number c = c.cell.0 == number

abbrev pub cell_numbered : List SpaceCell → ℕ → Option SpaceCell
cell_numbered cells number = find (is_numbered number) cells

abbrev pub provider_at : List ℕ → SpaceCell → Option Provider
provider_at name c = provider_at_by of_called of_called.names name c

-- the cell is in that state and stands in one of the namespaces
abbrev pub is_holder : List ℕ → Standing → SpaceCell → Bool
is_holder spaces state c = is_in state c && holds spaces c.ns

-- what the cell provides, where it is such a cell
abbrev pub offer : List ℕ → Standing → List ℕ → SpaceCell → Option Provider
offer spaces state name c = if is_holder spaces state c then provider_at name c else None

abbrev pub first_provider : List ℕ → Standing → List ℕ → List SpaceCell → Option Provider
first_provider spaces state name cells = first_provider_by of_called spaces name (filter (is_in state) cells)

abbrev pub strong_provider : List ℕ → Standing → List ℕ → List SpaceCell → Option Provider
strong_provider spaces state name cells = strong_by of_called spaces name cells state

abbrev pub weak_provider : List ℕ → Standing → List ℕ → List SpaceCell → Option Provider
weak_provider spaces state name cells = weak_by of_called spaces name cells state

abbrev pub provider_for : List ℕ → Standing → List ℕ → List SpaceCell → Option Provider
provider_for spaces state name cells = provider_by of_called spaces name cells state

-- the cell is attached and stands on one path with the namespace
abbrev pub is_rival : List Namespace → ℕ → SpaceCell → Bool
is_rival spaces ns c = is_rival_by of_called spaces ns c

abbrev pub rivals : List Namespace → ℕ → List SpaceCell → List SpaceCell
rivals spaces ns cells = rivals_by of_called spaces ns cells

abbrev pub number_of : Option SpaceCell → Option ℕ
number_of found = option_map (λ c. c.cell.0) found

abbrev pub clash_stem : List Namespace → ℕ → List ℕ → List SpaceCell → Option ℕ
clash_stem spaces ns stem cells = clash_stem_by of_called spaces ns stem cells

abbrev pub clash_name : List Namespace → ℕ → List ℕ → List SpaceCell → Option ℕ
clash_name spaces ns name cells = clash_name_by of_called spaces ns name cells

abbrev pub cell_at : ℕ → List ℕ → List SpaceCell → Option ℕ
cell_at ns stem cells = number_of (cell_at_by of_called ns stem cells)

abbrev pub is_higher : ℕ → SpaceCell → Bool
is_higher number c = nat_lt number c.cell.0

abbrev pub with_cell : SpaceCell → List SpaceCell → List SpaceCell
with_cell c [] = c ∷ []
with_cell c (d ∷ cells) = if is_higher c.cell.0 d then c ∷ d ∷ cells else d ∷ with_cell c cells

-- the cell, in another state where it has the number
abbrev pub put_into : Standing → ℕ → SpaceCell → SpaceCell
put_into state number c = if is_numbered number c then record c { state = state } else c

abbrev pub with_state : Standing → ℕ → List SpaceCell → List SpaceCell
with_state state number cells = map (put_into state number) cells

-- the cell, with one more name where it has the number
abbrev pub take_name : ℕ → Alias → SpaceCell → SpaceCell
take_name number a c = if is_numbered number c then record c { names = c.names ++ a ∷ [] } else c

abbrev pub with_name : ℕ → Alias → List SpaceCell → List SpaceCell
with_name number a cells = map (take_name number a) cells

-- the cell of that number is there, and lacks the name
abbrev pub LacksName : List SpaceCell → ℕ → List ℕ → Type 0
LacksName cells number name = IsSomeAnd (cell_numbered cells number) (λ c. has_name c.names name ≡ false)

abbrev pub without : ℕ → List SpaceCell → List SpaceCell
without number cells = filter (λ c. not (is_numbered number c)) cells

-- the code's providers and numbers as these
abbrev pub provider_as : ProviderFound → Provider
provider_as p = record { cell = p.cell.0; symbol = p.symbol }

abbrev pub number_as : CellId → ℕ
number_as id = id.0
