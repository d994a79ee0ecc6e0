-- The first row of a name among the definitions of all cells is the definition that the rule of a swap takes.
use Rattle.std.proofs.Common.{◌≡◌, refl, sym, ◌∙◌, ap, arith, inl, inr, ℕ, suc, Bool, true, false, cond, List, [], ◌∷◌, Option, Some, None, map}
use Rattle.std.specs.Prelude.{filter, filter_map, find, option_and_then, option_map, unwrap_or}
use Rattle.std.specs.List.{cons_option}
use Rattle.cell_num.specs.Lists.{equals, first, numbered_from, or_else, where_true, In}
use Rattle.cell_object.specs.declared.object.Home.{Home}
use Rattle.cell_object.specs.declared.object.Home.TheVariants.{Undef, Abs, Inside, Elsewhere}
use Rattle.cell_object.specs.declared.object.Symbol.{Symbol}
use Rattle.cell_object.specs.Parts.{section_of, symbol_at}
use Rattle.cell_world.specs.declared.state.NewCell.{NewCell}
use Rattle.cell_world.specs.Names.{is_definition}
use Rattle.cell_world.specs.Commands.SpawnCommand.{entry_offset, inside_of, is_entry_in}
use Rattle.cell_world.specs.Commands.SwapTransfer.{Begin as Place, begin_of, definition_named}
use Rattle.cell_world.specs.World.{Alias, Cell, attached}
use Rattle.cell_num.proofs.Elements.{In-numbered}
use Rattle.cell_xfer.specs.Named.{AnswersAs, first_named}
use Rattle.cell_xfer.proofs.Answering.{first_named_both}
use Rattle.cell_routines.specs.declared.entries.Begin.{Begin}
use Rattle.cell_routines.specs.Begins.{DefinitionRow, all_rows, begin_as, begin_in, begin_named, definition_rows}

abbrev here : NewCell → ℕ × ℕ → Begin
here c place = record { cell = c.id; section = place.0; offset = place.1 }

-- the place of the symbol of that number
abbrev begin_numbered : NewCell → ℕ → Option Begin
begin_numbered c n = option_map (here c) (entry_offset c.object n)

abbrev as_alias : ℕ × Symbol → Alias
as_alias p = record { name = p.1.name; symbol = p.0 }

tested : (b : Bool) (c : NewCell) (place : ℕ × ℕ) → where_true b (here c place) ≡ option_map (here c) (where_true b place)
tested true c place = refl
tested false c place = refl

at_home : (c : NewCell) (s : Symbol) (home : Home)
    → option_and_then (λ section. where_true (unwrap_or (option_map (is_entry_in c.object s.value) (section_of c.object section)) false) (here c (section, s.value))) (inside_of home)
    ≡ option_map (here c) (option_and_then (λ section. where_true (unwrap_or (option_map (is_entry_in c.object s.value) (section_of c.object section)) false) (section, s.value)) (inside_of home))
at_home c s Undef = refl
at_home c s Abs = refl
at_home c s Elsewhere = refl
at_home c s (Inside n) = tested (unwrap_or (option_map (is_entry_in c.object s.value) (section_of c.object n)) false) c (n, s.value)

abbrev entry_of : NewCell → Symbol → Option (ℕ × ℕ)
entry_of c s = option_and_then (λ section. where_true (unwrap_or (option_map (is_entry_in c.object s.value) (section_of c.object section)) false) (section, s.value)) (inside_of s.home)

symbol_begins : (c : NewCell) (n : ℕ) (s : Symbol) → symbol_at c.object n ≡ Some s → begin_in c s ≡ begin_numbered c n
symbol_begins c n s e = at_home c s s.home ∙ sym (ap (λ (o : Option Symbol). option_map (here c) (option_and_then (entry_of c) o)) e)

module _ (c : NewCell) (name : List ℕ) where
  abbrev found_in : List (ℕ × Symbol) → Option ℕ
  found_in rows = option_map (λ (a : Alias). a.symbol) (find (λ (a : Alias). equals a.name name) (map as_alias rows))

  named : (s : Symbol) (k : ℕ) (rest : List DefinitionRow) (behind : List (ℕ × Symbol)) (b : Bool) → begin_in c s ≡ begin_numbered c k → first_named rest name ≡ option_map (begin_numbered c) (found_in behind)
      → option_map (λ (r : DefinitionRow). r.1) (cond b (Some (s.name, begin_in c s)) (find (λ (r : DefinitionRow). equals r.0 name) rest))
      ≡ option_map (begin_numbered c) (option_map (λ (a : Alias). a.symbol) (cond b (Some (as_alias (k, s))) (find (λ (a : Alias). equals a.name name) (map as_alias behind))))
  named s k rest behind true is more = ap Some is
  named s k rest behind false is more = more

  one : (s : Symbol) (k : ℕ) (symbols : List Symbol) (behind : List (ℕ × Symbol)) (d : Bool) → begin_in c s ≡ begin_numbered c k
      → first_named (definition_rows c symbols) name ≡ option_map (begin_numbered c) (found_in behind)
      → first_named (map (λ (t : Symbol). (t.name, begin_in c t)) (cond d (s ∷ filter is_definition symbols) (filter is_definition symbols))) name
      ≡ option_map (begin_numbered c) (found_in (cond d ((k, s) ∷ behind) behind))
  one s k symbols behind true is more = named s k (definition_rows c symbols) behind (equals s.name name) is more
  one s k symbols behind false is more = more

  among : (symbols : List Symbol) (k : ℕ) → ((p : ℕ × Symbol) → In p (numbered_from k symbols) → symbol_at c.object p.0 ≡ Some p.1)
      → first_named (definition_rows c symbols) name ≡ option_map (begin_numbered c) (found_in (filter (λ p. is_definition p.1) (numbered_from k symbols)))
  among [] k at = refl
  among (s ∷ symbols) k at =
      one s k symbols (filter (λ p. is_definition p.1) (numbered_from (suc k) symbols)) (is_definition s)
      (symbol_begins c k s (at (k, s) (inl refl))) (among symbols (suc k) (λ p i. at p (inr i)))

  -- the symbols are numbered from 1
  numbers : (p : ℕ × Symbol) → In p (numbered_from 1 c.object.symbols) → symbol_at c.object p.0 ≡ Some p.1
  numbers p i =
      let at = In-numbered c.object.symbols 1 p i in
      let e : p.0 ≡ suc at.0 = omega (arith, at.2) in
      ap (symbol_at c.object) e ∙ at.1

  -- in one cell
  own : first_named (definition_rows c c.object.symbols) name ≡ option_map (begin_numbered c) (definition_named (attached c) name)
  own = among c.object.symbols 1 numbers

abbrev resolved : Option (Option Begin) → Option Place
resolved o = option_map begin_as (option_and_then (λ begin. begin) o)

-- the place of a cell's symbol of that number
abbrev pub of_definition : Cell × ℕ → Option Place
of_definition p = option_map (λ place. record { cell = p.0.id.0; section = place.0; offset = place.1 }) (entry_offset p.0.object p.1)

as_place : (c : NewCell) (o : Option (ℕ × ℕ)) → option_map begin_as (option_map (here c) o) ≡ option_map (λ place. record { cell = c.id.0; section = place.0; offset = place.1 }) o
as_place c None = refl
as_place c (Some place) = refl

module _ (name : List ℕ) where
  -- the cell with its symbol of the name, where it defines the name
  abbrev pub defined : Cell → Option (Cell × ℕ)
  defined c = option_map (λ symbol. (c, symbol)) (definition_named c name)

  first_cell : (c : NewCell) (cells : List NewCell) (o : Option ℕ) → begin_named (all_rows cells) name ≡ begin_of (map attached cells) name
      → resolved (or_else (option_map (begin_numbered c) o) (first_named (all_rows cells) name))
      ≡ option_and_then of_definition (first (cons_option (option_map (λ symbol. (attached c, symbol)) o) (filter_map defined (map attached cells))))
  first_cell c cells None more = more
  first_cell c cells (Some n) more = as_place c (entry_offset c.object n)

  by_rows : (cells : List NewCell) → begin_named (all_rows cells) name ≡ begin_of (map attached cells) name
  by_rows [] = refl
  by_rows (c ∷ cells) =
      ap resolved
      (first_named_both (definition_rows c c.object.symbols) (all_rows cells) name
      ∙ ap (λ (o : Option (Option Begin)). or_else o (first_named (all_rows cells) name)) (own c name))
      ∙ first_cell c cells (definition_named (attached c) name) (by_rows cells)

-- a table that answers as the rows do
pub by_table : (table : List DefinitionRow) (cells : List NewCell) → AnswersAs table (all_rows cells) → (name : List ℕ) → begin_named table name ≡ begin_of (map attached cells) name
by_table table cells same name = ap resolved (same name) ∙ by_rows name cells
