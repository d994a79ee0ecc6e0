-- The object of the lines in their places: sections, symbols and entries.
use Rattle.std.specs.Prelude.{◌+◌, ◌/◌, ◌∷◌, ◌++◌, if◌then◌else◌}
use Rattle.cell_asm.specs.Types.{ℕ, suc, max, Bool, true, false, not, List, [], map, codes, decimal, Option, Some, None, filter, flat_map, find, position, fold, replicate, list_any, cons_option, option_map_or, unwrap_or, holds_name, bytes_of, Object, Section, Symbol, Entry, Fill, Prog, Zero, Bind}
use Rattle.cell_asm.specs.Types.{Local, NoType, Home, Undef, Inside, Part, Text, Rodata, Data, Bss, Target, Mark, Statement, StatementBind, Binding, BindingWeak as Weak, StatementZeros as Zeros, StatementAlign as Align, Bytes, Laid, Key, KeyNamed as Named, KeyMade as Made, Label, is_some}
use Rattle.cell_object.specs.declared.object.Bind.TheVariants as binds
use Rattle.cell_asm.specs.declared.statement.Target.TheVariants as targets
use Rattle.cell_asm.specs.Places.{marks_in, is_same_part, is_in, is_key, holds_key, choice, choices, gap, size_in, labels, binding_in}

-- SECTIONS, by first use

abbrev pub adds_part : List Part → Part → List Part
adds_part parts part = if list_any (is_same_part part) parts then parts else parts ++ part ∷ []

abbrev pub adds_choice : List Part → Statement → List Part
adds_choice parts statement = fold adds_part parts (cons_option (choice statement) [])

-- the sections that are chosen, each where it is chosen first
abbrev pub parts_of : List Laid → List Part
parts_of lines = fold adds_part [] (choices lines)

-- the number of a section, from 1, among those that are chosen
abbrev pub number_in : List Part → Part → ℕ
number_in parts part = option_map_or (λ i. i + 1) (position (is_same_part part) parts) 0

abbrev pub part_number : List Laid → Part → ℕ
part_number lines part = number_in (parts_of lines) part

abbrev pub part_name : Part → List ℕ
part_name Text = codes ".text"
part_name Rodata = codes ".rodata"
part_name Data = codes ".data"
part_name Bss = codes ".bss"

abbrev pub is_text : Part → Bool
is_text part = is_same_part Text part

abbrev pub first_alignment : Part → ℕ
first_alignment Text = 4
first_alignment _ = 8

abbrev pub alignment_asked : Statement → ℕ
alignment_asked (Align unit) = unit
alignment_asked _ = 1

abbrev pub alignment : Part → List Laid → ℕ
alignment part lines = fold max (first_alignment part) (map (λ l. alignment_asked l.line.statement) (filter (is_in part) lines))

-- bytes up to a multiple: `addi zero,zero,0` again and again in `.text`, zeros elsewhere
abbrev pub padding : Part → ℕ → List ℕ
padding Text n = flat_map (λ word. bytes_of 4 word) (replicate (n / 4) 0x13)
padding _ n = replicate n 0

-- the bytes of a statement at an offset
abbrev pub bytes_at : Part → ℕ → Statement → List ℕ
bytes_at part offset (Zeros n) = replicate n 0
bytes_at part offset (Align unit) = padding part (gap unit offset)
bytes_at part offset (Bytes content b) = b.bytes
bytes_at part offset _ = []

abbrev pub contents : Part → List Laid → List ℕ
contents Bss lines = []
contents part lines = flat_map (λ l. bytes_at part l.offset l.line.statement) (filter (is_in part) lines)

abbrev pub fill_of : Part → Fill
fill_of Bss = Zero
fill_of _ = Prog

abbrev pub may_write : Part → Bool
may_write Data = true
may_write Bss = true
may_write _ = false

abbrev pub section_of : List Laid → Part → Section
section_of lines part =
    record {
      number = part_number lines part;
      name = part_name part;
      write = may_write part;
      exec = is_text part;
      fill = fill_of part;
      align = alignment part lines;
      size = size_in part lines;
      bytes = contents part lines;
    }

abbrev pub sections : List Laid → List Section
sections lines = map (section_of lines) (parts_of lines)

-- SYMBOLS: the labels that no directive gives a binding; then all other names

abbrev pub is_bound : List Laid → Key → Bool
is_bound lines (Named name) = is_some (binding_in lines name)
is_bound lines (Made n) = false

abbrev pub local_labels : List Laid → List Label
local_labels lines = filter (λ l. not (is_bound lines l.key)) (labels lines)

-- the names that a statement mentions, in order
abbrev pub target_names : Target → List (List ℕ)
target_names (targets.Named name) = name ∷ []
target_names targets.Made = []

abbrev pub statement_names : Statement → List (List ℕ)
statement_names (StatementBind binding name) = name ∷ []
statement_names (Bytes content b) = flat_map (λ m. target_names m.fix.target) b.marks
statement_names _ = []

abbrev pub label_names : Option (List ℕ) → List (List ℕ)
label_names None = []
label_names (Some name) = name ∷ []

-- the names that the lines mention, a label at its definition too
abbrev pub mentions : List Laid → List (List ℕ)
mentions lines = flat_map (λ l. label_names l.line.label ++ statement_names l.line.statement) lines

abbrev pub adds_name : List (List ℕ) → List ℕ → List (List ℕ)
adds_name names name = if holds_name names name then names else names ++ name ∷ []

-- the other names, each where it is mentioned first
abbrev pub other_names : List Laid → List (List ℕ)
other_names lines = fold adds_name [] (filter (λ name. not (holds_key (local_labels lines) (Named name))) (mentions lines))

-- the name of a symbol
abbrev pub key_name : Key → List ℕ
key_name (Named name) = name
key_name (Made n) = codes ".La" ++ decimal n

-- the label of that name
abbrev pub label_named : List Laid → List ℕ → Option Label
label_named lines name = find (λ l. is_key l.key (Named name)) (labels lines)

abbrev pub home_at : List Laid → Option Label → Home
home_at lines None = Undef
home_at lines (Some l) = Inside (part_number lines l.part)

abbrev pub symbol : Key → Bind → Home → ℕ → Symbol
symbol key bind home value =
    record { name = key_name key; bind = bind; sort = NoType; home = home; value = value; size = 0 }

abbrev pub local_symbol : List Laid → Label → Symbol
local_symbol lines l = symbol l.key Local (home_at lines (Some l)) l.offset

-- a name that isn't LOCAL is GLOBAL where no directive makes it WEAK
abbrev pub bind_given : Option Binding → Bind
bind_given (Some Weak) = binds.Weak
bind_given _ = binds.Global

abbrev pub other_symbol : List Laid → List ℕ → Symbol
other_symbol lines name =
    symbol (Named name) (bind_given (binding_in lines name)) (home_at lines (label_named lines name)) (option_map_or (λ l. l.offset) (label_named lines name) 0)

abbrev pub symbols : List Laid → List Symbol
symbols lines = map (local_symbol lines) (local_labels lines) ++ map (other_symbol lines) (other_names lines)

-- what the symbols are known by, in their order
abbrev pub symbol_keys : List Laid → List Key
symbol_keys lines = map (λ l. l.key) (local_labels lines) ++ map (λ name. Named name) (other_names lines)

-- the number of a key among these, which are numbered from n on
abbrev pub number_from : ℕ → List Key → Key → Option ℕ
number_from n [] q = None
number_from n (k ∷ keys) q = if is_key k q then Some n else number_from (suc n) keys q

-- the number of a symbol, from 1
abbrev pub symbol_number : List Laid → Key → ℕ
symbol_number lines key = unwrap_or (number_from 1 (symbol_keys lines) key) 0

-- ENTRIES, by the number of their section and then in the order of the source

abbrev pub target_key : Laid → Target → Key
target_key l (targets.Named name) = Named name
target_key l targets.Made = Made l.made

abbrev pub entry_of : List Laid → Part → Laid → Mark → Entry
entry_of lines part l m =
    record {
      section = part_number lines part;
      offset = l.offset + m.at;
      kind = m.fix.kind;
      symbol = symbol_number lines (target_key l m.fix.target);
      addend = m.fix.addend;
    }

abbrev pub entries_of : List Laid → Part → Laid → List Entry
entries_of lines part l = map (entry_of lines part l) (marks_in l.line.statement)

abbrev pub entries_in : List Laid → Part → List Entry
entries_in lines part = flat_map (entries_of lines part) (filter (is_in part) lines)

abbrev pub entries : List Laid → List Entry
entries lines = flat_map (entries_in lines) (parts_of lines)

abbrev pub object_of : List Laid → Object
object_of lines = record { sections = sections lines; symbols = symbols lines; entries = entries lines }
