-- The names that new cells take on, by what the spaces say of the machine.
--     AreHeirs rows h                the table answers for the definitions
--     heir_there s cells c name      the symbol that the new cell has for the name, where nobody on one path has it
--     heir_now s cells c name        the same, where the cell doesn't hold the name weakly itself
--     take_now s n cells name        the new cells, of which that of number n takes on the name where it has an heir for it
--     renamed_now s n cells wants    the same for all names of the cells that are replaced
use Rattle.std.specs.Prelude.{◌≡◌, ℕ, suc, ◌==◌, Bool, true, false, List, [], ◌∷◌, ◌++◌, Option, Some, None, filter, find, fold, is_some, map, option_and_then, option_map, if◌then◌else◌}
use Rattle.cell_num.specs.Lists.{equals, first}
use Rattle.cell_world.specs.Names.{base_name, definitions_of, has_name, symbol_in, weak_definitions_of, weak_symbol_named}
use Rattle.cell_world.specs.Reexport.{successor_of, with_alias}
use Rattle.cell_world.specs.World.{Alias, Cell}
use Rattle.cell_space.specs.Machine.{called}
use Rattle.cell_space.specs.Named.{cell_numbered, clash_name}
use Rattle.cell_space.specs.Spaces.{SpacesState}
use Rattle.cell_gather.specs.declared.heirs.Heirs.{Heirs}
use Rattle.cell_gather.specs.declared.heirs.Heritage.{Heritage}
use Rattle.cell_gather.specs.declared.want.Want.{Want}

-- the definitions of a base name
abbrev pub of_base : List ℕ → List Alias → List Alias
of_base base rows = filter (λ a. equals (base_name a.name) base) rows

abbrev pub first_symbol : List Alias → Option ℕ
first_symbol rows = option_map (λ a. a.symbol) (first rows)

abbrev pub are_several : List Alias → Bool
are_several [] = false
are_several (a ∷ []) = false
are_several (a ∷ b ∷ rows) = true

pub record AreHeirs (rows : List Alias) (h : Heirs) : Type 0 where
  pub once : (base : List ℕ) → symbol_in h.once base ≡ first_symbol (of_base base rows)
  pub several : (base : List ℕ) → has_name h.several base ≡ are_several (of_base base rows)

abbrev pub heir_there : SpacesState → List Cell → Cell → List ℕ → Option ℕ
heir_there s cells c name =
    elim (clash_name s.namespaces c.ns name (s.cells ++ map called cells)) [ None ↦ successor_of c name | Some holder ↦ None ]

abbrev pub heir_now : SpacesState → List Cell → Cell → List ℕ → Option ℕ
heir_now s cells c name = if is_some (weak_symbol_named c name) then None else heir_there s cells c name

abbrev pub new_numbered : List Cell → ℕ → Option Cell
new_numbered cells number = find (λ c. c.id.0 == number) cells

abbrev pub take_now : SpacesState → ℕ → List Cell → List ℕ → List Cell
take_now s number cells name =
    elim (option_and_then (λ c. heir_now s cells c name) (new_numbered cells number)) [
      | None ↦ cells
      | Some symbol ↦ map (with_alias number (record { name = name; symbol = symbol })) cells
    ]

-- one name after the other
abbrev pub take_all_now : SpacesState → ℕ → List Cell → List Alias → List Cell
take_all_now s number cells names = fold (λ new a. take_now s number new a.name) cells names

abbrev pub hand_on_now : SpacesState → ℕ → List Cell → Want → List Cell
hand_on_now s number cells want =
    elim (option_and_then (λ id. cell_numbered s.cells id.0) want.replaces) [ None ↦ cells | Some old ↦ take_all_now s number cells old.names ]

-- the new cells are numbered from there on, in the order of the wants
abbrev pub renamed_now : SpacesState → ℕ → List Cell → List Want → List Cell
renamed_now s number cells [] = cells
renamed_now s number cells (want ∷ wants) = renamed_now s (suc number) (hand_on_now s number cells want) wants

-- the new cell of that number, with its namespace, its heirs and what it holds weakly
pub record IsNew (cells : List Cell) (number ns : ℕ) (h : Heritage) : Type 0 where
  pub cell : Cell
  pub found : new_numbered cells number ≡ Some cell
  pub ns_is : cell.ns ≡ ns
  pub heirs : AreHeirs (definitions_of cell.object) h.heirs
  pub weak : h.weak ≡ weak_definitions_of cell.object
