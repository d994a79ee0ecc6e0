-- Where a line stands, by the lines before it; and what is wrong with it there.
--     placed before n line      the line with its number, section and offset
--     fault_at before line      the first of Section, Twice, Long that it has there
use Rattle.std.specs.Prelude.{◌+◌, ◌-◌, ◌%◌, ◌==◌, ◌&&◌, ◌∷◌, ◌++◌, if◌then◌else◌, ◌||◌}
use Rattle.cell_num.specs.Limits.{max_section_bytes, max_stored_bytes}
use Rattle.cell_asm.specs.Types.{ℕ, nat_lt, nat_le, Bool, true, false, not, List, [], map, Option, Some, None, is_none, filter, filter_map, flat_map, sum_by, count_by, length, list_any, equals, last, where_true, or_else, AsmKind, AsmKindSection as Section, Twice, Long, Part, Text, Rodata, Data, Bss}
use Rattle.cell_asm.specs.Types.{Code, Narrow, Target, TargetNamed as Name, TargetMade as Made, Mark, Statement, Nothing, StatementChoose as Choose, StatementBind as Bind, Binding, BindingGlobal as Global, BindingWeak as Weak, StatementZeros as Zeros, StatementAlign as Align, Bytes, Line, Laid, Key}
use Rattle.cell_asm.specs.Types.{KeyNamed as Named, KeyMade, Label}

abbrev pub is_same_part : Part → Part → Bool
is_same_part Text Text = true
is_same_part Rodata Rodata = true
is_same_part Data Data = true
is_same_part Bss Bss = true
is_same_part _ _ = false

-- the line stands in that section
abbrev pub is_at : Part → Option Part → Bool
is_at part None = false
is_at part (Some other) = is_same_part part other

abbrev pub is_in : Part → Laid → Bool
is_in part l = is_at part l.part

-- the section that a statement chooses
abbrev pub choice : Statement → Option Part
choice (Choose part) = Some part
choice _ = None

abbrev pub choices : List Laid → List Part
choices lines = filter_map (λ l. choice l.line.statement) lines

-- how many bytes lack to a multiple
abbrev pub gap : ℕ → ℕ → ℕ
gap unit offset = if offset % unit == 0 then 0 else unit - offset % unit

-- how many bytes a statement takes there
abbrev pub taken : Statement → ℕ → ℕ
taken (Zeros n) offset = n
taken (Align unit) offset = gap unit offset
taken (Bytes content b) offset = length b.bytes
taken _ offset = 0

-- how many bytes the lines lay in a section
abbrev pub size_in : Part → List Laid → ℕ
size_in part lines = sum_by (λ l. taken l.line.statement l.offset) (filter (is_in part) lines)

abbrev pub size_at : Option Part → List Laid → ℕ
size_at None lines = 0
size_at (Some part) lines = size_in part lines

-- the entries for the bytes of a statement
abbrev pub marks_in : Statement → List Mark
marks_in (Bytes content b) = b.marks
marks_in _ = []

-- a statement whose second instruction names the first: it makes a label
abbrev pub is_made : Target → Bool
is_made Made = true
is_made (Name name) = false

abbrev pub makes_label : Statement → Bool
makes_label s = list_any (λ m. is_made m.fix.target) (marks_in s)

abbrev pub made_in : List Laid → ℕ
made_in lines = count_by (λ l. makes_label l.line.statement) lines

abbrev pub placed : List Laid → ℕ → Line → Laid
placed before n line =
    let part = last (choices before) in
    record { number = n; part = part; offset = size_at part before; made = made_in before + 1; line = line }

-- the labels of a line: its own, and the one that it makes
abbrev pub own_key : Option (List ℕ) → List Key
own_key None = []
own_key (Some name) = Named name ∷ []

abbrev pub made_key : Statement → ℕ → List Key
made_key statement n = if makes_label statement then KeyMade n ∷ [] else []

abbrev pub keys_of : Laid → List Key
keys_of l = own_key l.line.label ++ made_key l.line.statement l.made

abbrev pub label : Part → ℕ → Key → Label
label part offset key = record { key = key; part = part; offset = offset }

abbrev pub labels_at : Option Part → ℕ → List Key → List Label
labels_at None offset keys = []
labels_at (Some part) offset keys = map (label part offset) keys

-- all labels, in order of definition
abbrev pub labels : List Laid → List Label
labels lines = flat_map (λ l. labels_at l.part l.offset (keys_of l)) lines

abbrev pub is_key : Key → Key → Bool
is_key (Named a) (Named b) = equals a b
is_key (KeyMade m) (KeyMade n) = m == n
is_key _ _ = false

abbrev pub holds_key : List Label → Key → Bool
holds_key labels key = list_any (λ l. is_key l.key key) labels

-- which statements a section takes
abbrev pub takes : Part → Statement → Bool
takes Text (Zeros n) = n % 4 == 0
takes Text (Align unit) = nat_le 4 unit
takes Text (Bytes Narrow b) = false
takes Rodata (Bytes Code b) = false
takes Data (Bytes Code b) = false
takes Bss (Bytes content b) = false
takes part statement = true

-- a statement that lays nothing needs no section
abbrev pub lays_nothing : Statement → Bool
lays_nothing Nothing = true
lays_nothing (Choose part) = true
lays_nothing (Bind binding name) = true
lays_nothing _ = false

abbrev pub may_stand : Option Part → Line → Bool
may_stand None line = is_none line.label && lays_nothing line.statement
may_stand (Some part) line = takes part line.statement

-- an earlier line has the label
abbrev pub is_twice : List Laid → Option (List ℕ) → Bool
is_twice before None = false
is_twice before (Some name) = holds_key (labels before) (Named name)

-- the binding that a statement gives the name
abbrev pub given : List ℕ → Statement → Option Binding
given q (Bind binding name) = where_true (equals name q) binding
given q _ = None

-- the binding that a directive gives the name, if one does
abbrev pub binding_in : List Laid → List ℕ → Option Binding
binding_in [] q = None
binding_in (l ∷ lines) q = or_else (given q l.line.statement) (binding_in lines q)

abbrev pub is_other : Binding → Option Binding → Bool
is_other Global (Some Weak) = true
is_other Weak (Some Global) = true
is_other binding _ = false

-- an earlier line gives the name another binding
abbrev pub is_rebound : List Laid → Statement → Bool
is_rebound before (Bind binding name) = is_other binding (binding_in before name)
is_rebound before _ = false

abbrev pub largest : Part → ℕ
largest Bss = max_section_bytes
largest _ = max_stored_bytes

abbrev pub is_long : Option Part → ℕ → Bool
is_long None size = false
is_long (Some part) size = nat_lt (largest part) size

-- what is wrong with a line, by the section that is chosen, its size, and whether the label or the binding is taken
abbrev pub fault_by : Option Part → ℕ → Bool → Line → Option AsmKind
fault_by part offset twice line =
    or_else (where_true (not (may_stand part line)) Section)
    (or_else (where_true twice Twice)
    (where_true (is_long part (offset + taken line.statement offset)) Long))

abbrev pub fault_at : List Laid → Line → Option AsmKind
fault_at before line =
    let part = last (choices before) in fault_by part (size_at part before) (is_twice before line.label || is_rebound before line.statement) line
