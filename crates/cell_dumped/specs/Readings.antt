-- What a line of a dump says. It has a reading only as it is written: that of a line's text is the line.
--     line_said text     the line of that text
use Rattle.std.specs.Prelude.{ℕ, nat_lt, nat_le, ◌==◌, ◌&&◌, List, [], ◌∷◌, Option, Some, None, length, codes, option_map, option_and_then, bytes_eq, if◌then◌else◌}
use Rattle.std.specs.List.{slice_split}
use Rattle.std.specs.Str.Parse.{digits_value}
use Rattle.cell_num.specs.Lists.{where_true}
use Rattle.cell_text.specs.Number.{number_in, hex_number_in, is_hex_digit}
use Rattle.cell_script.specs.Grammar.{name, file, symbol}
use Rattle.cell_world.specs.declared.line.DumpLine.{DumpLine}
use Rattle.cell_world.specs.declared.line.DumpLine.TheVariants.{Space, Ns, Cell as CellLine, Place, Alias as AliasLine, Link, Provider, Content, End}
use Rattle.cell_world.specs.declared.line.Part.{Part}

abbrev pub Word : Type 0
Word = List ℕ

-- `x ← o` in a `do` block: go on with the value, if there is one
infixl 10 ◌>>=◌
abbrev pub ◌>>=◌ : {A B : Type 0} → Option A → (A → Option B) → Option B
None >>= f = None
Some a >>= f = f a

-- below 2^64
abbrev pub number : Word → Option ℕ
number word = number_in 18446744073709551615 word

abbrev pub two : List Word → Option (Word × Word)
two (a ∷ b ∷ []) = Some (a, b)
two words = None

-- the two words around the one such byte
abbrev pub around : ℕ → Word → Option (Word × Word)
around byte word = two (slice_split (λ b. b == byte) word)

-- C.S
abbrev pub part : Word → Option Part
part word = do
  both ← around 46 word
  cell ← number both.0
  section ← number both.1
  Some (record { cell = cell; section = section })

abbrev pub parent : Word → Option (Option ℕ)
parent word = if bytes_eq word (codes "-") then Some None else option_map (λ n. Some n) (number word)

abbrev pub group : List Word → Option (Option ℕ)
group (word ∷ []) = if bytes_eq word (codes "attached") then Some None else None
group (word ∷ swap ∷ []) = if bytes_eq word (codes "group") then option_map (λ n. Some n) (number swap) else None
group words = None

-- two hex digits a byte
abbrev pub byte_values : List ℕ → Option (List ℕ)
byte_values [] = Some []
byte_values (a ∷ []) = None
byte_values (a ∷ b ∷ rest) =
    if is_hex_digit a && is_hex_digit b
    then option_map (λ bytes. digits_value 16 (a ∷ b ∷ []) ∷ bytes) (byte_values rest)
    else None

-- 1 to 64 bytes
abbrev pub content : Word → Option (List ℕ)
content word = option_and_then (λ bytes. where_true (nat_lt 0 (length bytes) && nat_le (length bytes) 64) bytes) (byte_values word)

abbrev pub space_said : List Word → Option DumpLine
space_said (base ∷ pages ∷ []) = do
  b ← hex_number_in base
  p ← number pages
  Some (Space b p)
space_said words = None

abbrev pub ns_said : List Word → Option DumpLine
ns_said (place ∷ word ∷ above ∷ []) = do
  n ← number place
  called ← name word
  p ← parent above
  Some (Ns n called p)
ns_said words = None

abbrev pub cell_said : List Word → Option DumpLine
cell_said (cell ∷ ns ∷ stem ∷ word ∷ rest) = do
  c ← number cell
  n ← number ns
  s ← name stem
  f ← file word
  g ← group rest
  Some (CellLine c n s f g)
cell_said words = None

abbrev pub place_said : List Word → Option DumpLine
place_said (cell ∷ section ∷ start ∷ []) = do
  c ← number cell
  s ← number section
  a ← hex_number_in start
  Some (Place c s a)
place_said words = None

abbrev pub alias_said : List Word → Option DumpLine
alias_said (cell ∷ place ∷ word ∷ []) = do
  c ← number cell
  k ← number place
  n ← symbol word
  Some (AliasLine c k n)
alias_said words = None

abbrev pub link_said : List Word → Option DumpLine
link_said (user ∷ entry ∷ target ∷ []) = do
  u ← part user
  e ← number entry
  t ← part target
  Some (Link u e t)
link_said words = None

abbrev pub provider_said : List Word → Option DumpLine
provider_said (ns ∷ word ∷ place ∷ []) = do
  n ← number ns
  called ← symbol word
  both ← around 43 place
  at ← part both.0
  offset ← hex_number_in both.1
  Some (Provider n called at offset)
provider_said words = None

abbrev pub content_said : List Word → Option DumpLine
content_said (place ∷ addr ∷ word ∷ []) = do
  at ← part place
  a ← hex_number_in addr
  bytes ← content word
  Some (Content at a bytes)
content_said words = None

abbrev pub end_said : List Word → Option DumpLine
end_said [] = Some End
end_said words = None

-- a form of lines: its first word, and what the others say
pub record Form : Type 0 where
  pub word : Word
  pub said : List Word → Option DumpLine

abbrev pub forms : List Form
forms =
    record { word = codes "space"; said = space_said }
    ∷ record { word = codes "ns"; said = ns_said }
    ∷ record { word = codes "cell"; said = cell_said }
    ∷ record { word = codes "place"; said = place_said }
    ∷ record { word = codes "alias"; said = alias_said }
    ∷ record { word = codes "link"; said = link_said }
    ∷ record { word = codes "name"; said = provider_said }
    ∷ record { word = codes "bytes"; said = content_said }
    ∷ record { word = codes "end"; said = end_said }
    ∷ []

abbrev pub said_in : List Form → Word → List Word → Option DumpLine
said_in [] word rest = None
said_in (form ∷ others) word rest = if bytes_eq word form.word then form.said rest else said_in others word rest

abbrev pub said_by : List Word → Option DumpLine
said_by [] = None
said_by (word ∷ rest) = said_in forms word rest

abbrev pub line_said : List ℕ → Option DumpLine
line_said text = said_by (slice_split (λ b. b == 32) text)
