-- Where the routines of new cells begin, and tables of the names that the cells define.
--     begin_as b                    the place, as the definition of a swap has it
--     begin_at c section offset     that place of the cell, where a routine may begin there
--     begin_in c s                  the place of the cell's symbol
--     definition_rows c symbols     the definitions among these symbols of the cell
--     all_rows cells                the definitions of all cells
--     begin_named table name        where the routine of that name begins
--     begins_by table words         where the routines of these names begin, or the refusal
use Rattle.std.specs.Prelude.{ℕ, false, List, [], ◌∷◌, ◌++◌, Option, Ok, filter, flat_map, map, option_and_then, option_map, unwrap_or}
use Rattle.cell_num.specs.Lists.{where_true}
use Rattle.cell_object.specs.declared.object.Section.{Section as ObjectSection}
use Rattle.cell_object.specs.declared.object.Symbol.{Symbol}
use Rattle.cell_object.specs.Parts.{section_of}
use Rattle.cell_world.specs.declared.refusal.Refusal.TheVariants.{NoEntry}
use Rattle.cell_world.specs.declared.state.NewCell.{NewCell}
use Rattle.cell_world.specs.Names.{is_definition}
use Rattle.cell_world.specs.Outcome.{Outcome, ◌>>=◌, each, found}
use Rattle.cell_world.specs.Commands.SpawnCommand.{inside_of, is_entry_in}
use Rattle.cell_world.specs.Commands.SwapTransfer.{Begin as Place}
use Rattle.cell_xfer.specs.Named.{first_named}
use Rattle.cell_routines.specs.declared.entries.Begin.{Begin}

abbrev pub begin_as : Begin → Place
begin_as b = record { cell = b.cell.0; section = b.section; offset = b.offset }

-- what sections are in the order of
abbrev pub section_number : ObjectSection → ℕ
section_number s = s.number

abbrev pub begin_at : NewCell → ℕ → ℕ → Option Begin
begin_at c section offset =
    where_true
    (unwrap_or (option_map (is_entry_in c.object offset) (section_of c.object section)) false)
    (record { cell = c.id; section = section; offset = offset })

abbrev pub begin_in : NewCell → Symbol → Option Begin
begin_in c s = option_and_then (λ section. begin_at c section s.value) (inside_of s.home)

-- a name, and where a routine may begin at its definition
abbrev pub DefinitionRow : Type 0
DefinitionRow = List ℕ × Option Begin

abbrev pub definition_rows : NewCell → List Symbol → List DefinitionRow
definition_rows c symbols = map (λ s. (s.name, begin_in c s)) (filter is_definition symbols)

abbrev pub all_rows : List NewCell → List DefinitionRow
all_rows cells = flat_map (λ c. definition_rows c c.object.symbols) cells

-- the first definition of the name decides
abbrev pub begin_named : List DefinitionRow → List ℕ → Option Place
begin_named table name = option_map begin_as (option_and_then (λ begin. begin) (first_named table name))

abbrev pub with_begin : List DefinitionRow → List Place → List ℕ → Outcome (List Place)
with_begin table begins word = found (begin_named table word) (NoEntry word) >>= (λ begin. Ok (begins ++ begin ∷ []))

abbrev pub begins_by : List DefinitionRow → List (List ℕ) → Outcome (List Place)
begins_by table words = each (with_begin table) [] words
