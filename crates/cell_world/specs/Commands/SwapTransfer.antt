-- What a swap's transfer routines are given: where they begin, their stack, and the names that they may ask for.
--     begins_of cells words       where the routines of these names begin, of cells that need no places yet
--     stack_for w words           where their stack starts, if there are any
--     routines_in w begins        the routines, by the places that the cells have in w
--     addresses_in cells          the names of the cells with their addresses, cell by cell
--     transferred_by words end    the machine after the routines, or the refusal under the name of the one that failed
use Rattle.std.specs.Prelude.{ℕ, ◌+◌, List, [], ◌∷◌, ◌++◌, Option, Some, None, Result, Ok, Err, map, flat_map, filter_map, option_map, option_and_then, unwrap_or, slice_index_or}
use Rattle.cell_num.specs.Lists.{first, numbered}
use Rattle.cell_object.specs.Parts.{symbol_at}
use Rattle.cell_world.specs.declared.refusal.Refusal.TheVariants.{NoEntry, Transfer}
use Rattle.cell_world.specs.World.{World, Cell, cell_of}
use Rattle.cell_world.specs.Names.{definitions_of, names_of, symbol_in}
use Rattle.cell_world.specs.Linked.Target.{start_of, own_target, address_of}
use Rattle.cell_world.specs.Placed.Place.{start_of_run}
use Rattle.cell_world.specs.Commands.SpawnCommand.{entry_offset}
use Rattle.cell_world.specs.declared.transfer.Routine.{Routine}
use Rattle.cell_world.specs.declared.transfer.NameAddr.{NameAddr}
use Rattle.cell_world.specs.declared.transfer.Failure.{Failure}
use Rattle.cell_world.specs.Outcome.{Outcome, ◌>>=◌, found, each}

-- a place in a section of a cell
pub record Begin : Type 0 where
  pub cell : ℕ
  pub section : ℕ
  pub offset : ℕ

-- the symbol that the cell's object defines under that name. An alias doesn't count
abbrev pub definition_named : Cell → List ℕ → Option ℕ
definition_named c name = symbol_in (definitions_of c.object) name

-- the first of the cells that defines the name, with its symbol
abbrev pub first_definition : List Cell → List ℕ → Option (Cell × ℕ)
first_definition cells name = first (filter_map (λ c. option_map (λ symbol. (c, symbol)) (definition_named c name)) cells)

-- that definition alone decides whether there is a place to begin
abbrev pub begin_of : List Cell → List ℕ → Option Begin
begin_of cells name =
    option_and_then
    (λ p. option_map (λ place. record { cell = p.0.id.0; section = place.0; offset = place.1 }) (entry_offset p.0.object p.1))
    (first_definition cells name)

abbrev pub begins_of : List Cell → List (List ℕ) → Outcome (List Begin)
begins_of cells words =
    each (λ begins word. found (begin_of cells word) (NoEntry word) >>= (λ begin. Ok (begins ++ begin ∷ []))) [] words

abbrev pub stack_for : World → List (List ℕ) → Outcome (Option ℕ)
stack_for w [] = Ok None
stack_for w (word ∷ words) = start_of_run w 4 >>= (λ stack. Ok (Some stack))

abbrev pub entry_at : World → Begin → ℕ
entry_at w b = unwrap_or (option_map (λ c. start_of c.placed b.section + b.offset) (cell_of w b.cell)) 0

-- each with its place among the words
abbrev pub routines_in : World → List Begin → List Routine
routines_in w begins = map (λ p. record { name = p.0; entry = entry_at w p.1 }) (numbered begins)

abbrev pub symbol_address : Cell → ℕ → ℕ
symbol_address c symbol =
    unwrap_or (option_map address_of (option_and_then (λ s. own_target c.placed s s.home) (symbol_at c.object symbol))) 0

-- of each cell the definitions in symbol order, then the aliases
abbrev pub addresses_in : List Cell → List NameAddr
addresses_in cells = flat_map (λ c. map (λ a. record { name = a.name; addr = symbol_address c a.symbol }) (names_of c)) cells

abbrev pub transferred_by : List (List ℕ) → Result World Failure → Outcome World
transferred_by words (Ok w) = Ok w
transferred_by words (Err failure) = Err (Transfer (slice_index_or words failure.routine []) failure.why)
