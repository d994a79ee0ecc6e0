-- Which objects can be written, so that the image is read as the object again: those that keep the rules, and
-- whose parts can be stored.
use Rattle.std.specs.Prelude.{◌≡◌, ℕ, ◌+◌, ◌^◌, ◌<◌, ◌≤◌, Bool, true, false, List, [], length, slice_get, FitsSigned, Some}
use Rattle.std.specs.List.{list_any, flat_map}
use Rattle.std.specs.Int.{w64}
use Rattle.cell_num.specs.Lists.{numbered_from}
use Rattle.cell_object.specs.Bytes.{is_zero}
use Rattle.cell_object.specs.Parts.{is_external, is_local}
use Rattle.cell_object.specs.Readable.{IsReadable}
use Rattle.cell_object.specs.declared.object.Object.{Object}
use Rattle.cell_object.specs.declared.object.Section.{Section}
use Rattle.cell_object.specs.declared.object.Symbol.{Symbol}
use Rattle.cell_object.specs.declared.object.Entry.{Entry}
use Rattle.cell_object.specs.declared.object.Sort.{Sort}
use Rattle.cell_object.specs.declared.object.Sort.TheVariants as sorts
use Rattle.cell_object.specs.declared.object.Home.TheVariants.{Abs}
use Rattle.cell_object.specs.declared.object.Fill.TheVariants.{Zero}
use Rattle.cell_object.specs.ImageParts.{entries_for, symbol_strings, section_strings, parts, offset_after}
use Rattle.cell_object.specs.Image.{local_count, section_rows}

-- a name that ends where it should: no byte of it is zero
abbrev pub IsPlain : List ℕ → Type 0
IsPlain name = list_any is_zero name ≡ false

abbrev pub is_file : Sort → Bool
is_file sorts.File = true
is_file _ = false

-- the section after the first k: its number is its place in the file, and it has no bytes where the file
-- has none of it
pub record IsStorableSection (k : ℕ) (s : Section) : Type 0 where
  pub numbered : s.number ≡ k + 1
  pub name : IsPlain s.name
  pub bare : s.fill ≡ Zero → s.bytes ≡ []

-- the symbol after the first k
pub record IsStorableSymbol (object : Object) (k : ℕ) (s : Symbol) : Type 0 where
  pub name : IsPlain s.name
  -- the LOCAL symbols come first
  pub first : k < local_count object → is_local s.bind ≡ true
  pub last : local_count object ≤ k → is_external s.bind ≡ true
  -- a FILE symbol is absolute
  pub filed : is_file s.sort ≡ true → s.home ≡ Abs
  pub value : s.value < 2 ^ 64
  pub size : s.size < 2 ^ 64

-- the numbers of the entry fit
pub record IsStorableEntry (e : Entry) : Type 0 where
  pub offset : e.offset < 2 ^ 32
  pub symbol : e.symbol < 2 ^ 32
  pub addend : FitsSigned w64 e.addend

-- the parts of the image are in order, and none is too large
pub record FitsImage (object : Object) : Type 0 where
  -- the entries stand by sections, in the order of the sections
  pub grouped : object.entries ≡ flat_map (λ row. entries_for object.entries row.0) (numbered_from 1 object.sections)
  pub headers : length (section_rows object) < 65280
  pub locals : local_count object + 1 < 2 ^ 32
  pub texts : length (symbol_strings object) < 2 ^ 32
  pub names : length (section_strings object) < 2 ^ 32
  pub size : offset_after (parts object) < 2 ^ 64

pub record IsWritable (object : Object) : Type 0 where
  pub readable : IsReadable object
  pub sections : (k : ℕ) (s : Section) → slice_get object.sections k ≡ Some s → IsStorableSection k s
  pub symbols : (k : ℕ) (s : Symbol) → slice_get object.symbols k ≡ Some s → IsStorableSymbol object k s
  pub entries : (k : ℕ) (e : Entry) → slice_get object.entries k ≡ Some e → IsStorableEntry e
  pub fits : FitsImage object
