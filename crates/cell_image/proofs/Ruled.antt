-- What the rules ask of each part of an object that can be written.
use Rattle.std.specs.Prelude.{◌≡◌, ℕ, ◌+◌, ◌-◌, ◌^◌, ◌<◌, ◌≤◌, Bool, true, false, not, ◌&&◌, ◌||◌, ◌==◌, List, [], length, take, slice_get, FitsSigned, Some, ◌%◌}
use Rattle.std.specs.List.{list_any}
use Rattle.std.specs.Int.{w64}
use Rattle.cell_num.specs.Kinds.{width_of, is_instruction}
use Rattle.cell_object.specs.Parts.{is_external, is_local}
use Rattle.cell_object.specs.Sections.{is_alignment}
use Rattle.cell_object.specs.Symbols.{is_global_name, defines}
use Rattle.cell_object.specs.Relocations.{is_unusable, is_clash, is_unpaired, is_past_slot}
use Rattle.cell_object.specs.declared.object.Object.{Object}
use Rattle.cell_object.specs.declared.object.Section.{Section}
use Rattle.cell_object.specs.declared.object.Symbol.{Symbol}
use Rattle.cell_object.specs.declared.object.Entry.{Entry}
use Rattle.cell_object.specs.declared.object.Bind.{Bind}
use Rattle.cell_object.specs.declared.object.Sort.{Sort}
use Rattle.cell_object.specs.declared.object.Sort.TheVariants as sorts
use Rattle.cell_object.specs.declared.object.Home.{Home}
use Rattle.cell_object.specs.declared.object.Home.TheVariants.{Undef, Abs, Inside, Elsewhere}
use Rattle.cell_object.specs.declared.object.Fill.{Fill}
use Rattle.cell_object.specs.declared.object.Fill.TheVariants.{Prog, Note, Zero}
use Rattle.cell_object.specs.ImageParts.{entries_for}
use Rattle.cell_object.specs.Image.{local_count}
use Rattle.cell_object.specs.Writable.{IsPlain, is_file, FitsImage}

-- as many bytes as the size says, or none where the section is filled with zeros
abbrev pub IsWhole : Fill → List ℕ → ℕ → Type 0
IsWhole Prog bytes size = length bytes ≡ size
IsWhole Note bytes size = length bytes ≡ size
IsWhole Zero bytes size = bytes ≡ []

pub record IsWritableSection (number : ℕ) (s : Section) : Type 0 where
  pub numbered : s.number ≡ number
  pub name : IsPlain s.name
  pub apart : (s.write && s.exec) ≡ false
  pub aligned : is_alignment s.align ≡ true
  pub some : 1 ≤ s.align
  pub most : s.align ≤ 4096
  pub small : s.size ≤ 16777216
  pub whole : IsWhole s.fill s.bytes s.size

abbrev pub is_section : Sort → Bool
is_section sorts.Section = true
is_section _ = false

-- the value is in the section with a number, or at its end
pub record IsWithin (sections : List Section) (number value : ℕ) : Type 0 where
  pub section : Section
  pub low : 1 ≤ number
  pub there : slice_get sections (number - 1) ≡ Some section
  pub value_inside : value ≤ section.size

-- an absolute symbol is LOCAL, as is one in a section that isn't loaded
abbrev pub IsWritableHome : List Section → Bind → ℕ → Home → Type 0
IsWritableHome sections bind value Undef = Unit {0}
IsWritableHome sections bind value Abs = is_local bind ≡ true
IsWritableHome sections bind value (Inside number) = IsWithin sections number value
IsWritableHome sections bind value Elsewhere = is_external bind ≡ false

-- the symbol after the first k of the object
pub record IsWritableSymbol (object : Object) (k : ℕ) (s : Symbol) : Type 0 where
  pub name : IsPlain s.name
  -- the LOCAL symbols come first
  pub first : k < local_count object → is_local s.bind ≡ true
  pub last : local_count object ≤ k → is_external s.bind ≡ true
  pub sort : (is_external s.bind && (is_section s.sort || is_file s.sort)) ≡ false
  -- a FILE symbol is absolute
  pub filed : is_file s.sort ≡ true → s.home ≡ Abs
  pub home : IsWritableHome object.sections s.bind s.value s.home
  -- a GLOBAL or WEAK has a good name that none before it has
  pub named : (is_external s.bind && (not (is_global_name s.name) || defines (take k object.symbols) s.name)) ≡ false
  pub value : s.value < 2 ^ 64
  pub size : s.size < 2 ^ 64

-- the numbers of the entry fit
pub record IsStorable (e : Entry) : Type 0 where
  pub offset : e.offset < 2 ^ 32
  pub symbol : e.symbol < 2 ^ 32
  pub addend : FitsSigned w64 e.addend

-- an entry for a section, after those before it for the section, among all of them
pub record IsWritableEntry (object : Object) (s : Section) (before all : List Entry) (e : Entry) : Type 0 where
  pub filled : s.fill ≡ Zero → ⊥
  pub symbol : e.symbol ≤ length object.symbols
  pub usable : is_unusable object.symbols e.symbol ≡ false
  pub inside : e.offset + width_of e.kind ≤ s.size
  pub code : (is_instruction e.kind && (not s.exec || not (e.offset % 4 == 0))) ≡ false
  pub apart : list_any (is_clash e) before ≡ false
  pub paired : is_unpaired object.symbols all e.section e.kind e.addend e.symbol ≡ false
  pub bare : is_past_slot e.kind e.addend ≡ false

-- each part keeps the rules that are tried on it in the image
pub record IsRuled (object : Object) : Type 0 where
  pub sections : (k : ℕ) (s : Section) → slice_get object.sections k ≡ Some s → IsWritableSection (k + 1) s
  pub symbols : (k : ℕ) (s : Symbol) → slice_get object.symbols k ≡ Some s → IsWritableSymbol object k s
  pub storable : (k : ℕ) (e : Entry) → slice_get object.entries k ≡ Some e → IsStorable e
  pub entries : (n : ℕ) (s : Section) → slice_get object.sections n ≡ Some s → (k : ℕ) (e : Entry) → slice_get (entries_for object.entries (n + 1)) k ≡ Some e
      → IsWritableEntry object s (take k (entries_for object.entries (n + 1))) (entries_for object.entries (n + 1)) e
  pub fits : FitsImage object
