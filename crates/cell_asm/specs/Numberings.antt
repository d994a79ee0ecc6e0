-- The parts of an object, by what is kept of the lines.
--     section_kept parts bodies part       a section
--     Mentions symbols kept names          the symbols are those of the LOCAL labels, and then of these names
--     part_entries kept symbols part       the entries of a section
use Rattle.std.specs.Prelude.{◌≡◌, ◌∷◌, ◌++◌, if◌then◌else◌}
use Rattle.cell_asm.specs.Types.{ℕ, Bool, List, [], map, length, Option, Some, None, is_some, false, not, filter, get, list_any, option_map_or, unwrap_or, nat_cmp, Section, Symbol, Bind, Local, Home, Undef, Inside, Entry, Part, Bodies, Reference, Key, KeyNamed as Named, KeyMade as Made, Label, Numbering, Spot, Known, Progress, Symbols, Binding}
use Rattle.cell_asm.specs.Places.{is_key, is_at}
use Rattle.cell_asm.specs.Objects.{number_in, number_from, section_of, symbol, bind_given}
use Rattle.cell_asm.specs.Progress.{known, spot_at, body_of}

-- SECTIONS

abbrev pub section_kept : List Part → Bodies → Part → Section
section_kept parts bodies part =
    let b = body_of bodies part in record (section_of [] part) { number = number_in parts part; align = b.align; size = b.size; bytes = b.bytes.items }

-- NUMBERS OF KEYS

-- the number that is kept for the key
abbrev pub number_of : Numbering → Key → Option ℕ
number_of numbers (Named q) = known numbers.named q
number_of numbers (Made m) = get nat_cmp numbers.made m

abbrev pub number_kept : Symbols → Key → ℕ
number_kept symbols key = unwrap_or (number_of symbols.numbers key) 0

abbrev pub has_key : List Key → Key → Bool
has_key keys q = list_any (λ k. is_key k q) keys

-- the symbols are that list, and are known by these keys, in their order
pub record Lists (symbols : Symbols) (keys : List Key) (wanted : List Symbol) : Type 0 where
  pub list : symbols.list.items ≡ wanted
  pub count : length keys ≡ length wanted
  pub numbers : (q : Key) → number_of symbols.numbers q ≡ number_from 1 keys q

-- SYMBOLS

abbrev pub home_in : List Part → Option Spot → Home
home_in parts None = Undef
home_in parts (Some spot) = Inside (number_in parts spot.part)

abbrev pub symbol_in : Progress → Key → Bind → Option Spot → Symbol
symbol_in kept key bind spot = symbol key bind (home_in kept.parts.items spot) (option_map_or (λ s. s.offset) spot 0)

abbrev pub local_in : Progress → Label → Symbol
local_in kept l = symbol_in kept l.key Local (Some (spot_at l))

abbrev pub other_in : Progress → List ℕ → Symbol
other_in kept name = symbol_in kept (Named name) (bind_given (known kept.bindings name)) (known kept.spots name)

abbrev pub is_bound_in : Known Binding → Key → Bool
is_bound_in bindings (Named name) = is_some (known bindings name)
is_bound_in bindings (Made n) = false

-- the labels that no directive gives a binding
abbrev pub locals_in : Progress → List Label → List Label
locals_in kept labels = filter (λ l. not (is_bound_in kept.bindings l.key)) labels

-- the symbols are those of the LOCAL labels among these
abbrev pub Locals : Symbols → Progress → List Label → Type 0
Locals symbols kept labels = Lists symbols (map (λ l. l.key) (locals_in kept labels)) (map (local_in kept) (locals_in kept labels))

-- the keys of the LOCAL labels, and then the other names
abbrev pub keys_with : Progress → List (List ℕ) → List Key
keys_with kept names = map (λ l. l.key) (locals_in kept kept.labels.items) ++ map (λ name. Named name) names

-- the other names, after one more mention
abbrev pub mentioned : Progress → List (List ℕ) → List ℕ → List (List ℕ)
mentioned kept names name = if has_key (keys_with kept names) (Named name) then names else names ++ name ∷ []

-- the symbols of the LOCAL labels, and then those of the other names
abbrev pub Mentions : Symbols → Progress → List (List ℕ) → Type 0
Mentions symbols kept names =
    Lists symbols (keys_with kept names) (map (local_in kept) (locals_in kept kept.labels.items) ++ map (other_in kept) names)

-- ENTRIES

abbrev pub entry_kept : ℕ → Symbols → Reference → Entry
entry_kept section symbols r = record { section = section; offset = r.offset; kind = r.kind; symbol = number_kept symbols r.key; addend = r.addend }

abbrev pub part_entries : Progress → Symbols → Part → List Entry
part_entries kept symbols part =
    map (entry_kept (number_in kept.parts.items part) symbols) (filter (λ r. is_at part r.part) kept.references.items)
