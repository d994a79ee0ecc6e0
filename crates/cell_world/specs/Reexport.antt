-- The old names that new cells take on in a swap.
--     successor_of c name             the symbol of the one definition of the cell that has the name's base name
--     heir_of w c name                the same, where no attached cell on one path has the name, nor the cell itself weakly
--     with_reexports w exchanges      w with the names of old cells as aliases of the new ones
use Rattle.std.specs.Prelude.{ℕ, ◌==◌, List, [], ◌∷◌, ◌++◌, Option, Some, None, map, filter, fold, is_some, option_and_then, if◌then◌else◌}
use Rattle.cell_num.specs.Lists.{equals}
use Rattle.cell_world.specs.World.{World, Cell, Alias, cell_of}
use Rattle.cell_world.specs.Names.{names_of, definitions_of, weak_symbol_named, clash_name, base_name}

-- the symbol, where there is one definition alone
abbrev pub symbol_of_one : List Alias → Option ℕ
symbol_of_one (a ∷ []) = Some a.symbol
symbol_of_one _ = None

abbrev pub successor_of : Cell → List ℕ → Option ℕ
successor_of c name =
    symbol_of_one (filter (λ a. equals (base_name a.name) (base_name name)) (definitions_of c.object))

-- the new cell itself is one of those that may have the name
abbrev pub heir_of : World → Cell → List ℕ → Option ℕ
heir_of w c name =
    if is_some (weak_symbol_named c name) then None else
    elim (clash_name w c.ns name) [ None ↦ successor_of c name | Some holder ↦ None ]

abbrev pub with_alias : ℕ → Alias → Cell → Cell
with_alias number a c = if c.id.0 == number then record c { aliases = c.aliases ++ a ∷ [] } else c

-- the cell of that number takes on the name, where it has an heir for it
abbrev pub take_on : ℕ → World → Alias → World
take_on number w old =
    elim (option_and_then (λ c. heir_of w c old.name) (cell_of w number)) [
      | None ↦ w
      | Some symbol ↦ record w { cells = map (with_alias number (record { name = old.name; symbol = symbol })) w.cells }
    ]

-- an old cell, and the number of the new one in its place
pub record Exchange : Type 0 where
  pub old : Cell
  pub fresh : ℕ

-- one old cell after the other, of each the definitions and then the aliases
abbrev pub with_reexports : World → List Exchange → World
with_reexports w exchanges = fold (λ v x. fold (take_on x.fresh) v (names_of x.old)) w exchanges
