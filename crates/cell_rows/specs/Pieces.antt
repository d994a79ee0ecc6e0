-- Small objects, piece by piece.
use Rattle.std.specs.Prelude.{ℕ, ℤ, true, false, List, Ok, codes, flat_map, length}
use Rattle.cell_num.specs.Bits.{bytes_of}
use Rattle.cell_num.specs.declared.kinds.RelKind.{RelKind}
use Rattle.cell_object.specs.declared.object.Section.{Section}
use Rattle.cell_object.specs.declared.object.Symbol.{Symbol}
use Rattle.cell_object.specs.declared.object.Entry.{Entry}
use Rattle.cell_object.specs.declared.object.Bind.TheVariants.{Local, Global, Weak}
use Rattle.cell_object.specs.declared.object.Sort.TheVariants.{NoType}
use Rattle.cell_object.specs.declared.object.Home.TheVariants.{Undef, Inside}
use Rattle.cell_object.specs.declared.object.Fill.TheVariants.{Prog}
use Rattle.cell_world.specs.Gather.{Source}

abbrev pub text : ℕ → List ℕ → Section
text number bytes = record { number = number; name = codes ".text"; write = false; exec = true; fill = Prog; align = 4; size = length bytes; bytes = bytes }

abbrev pub read_only : ℕ → List ℕ → Section
read_only number bytes = record { number = number; name = codes ".rodata"; write = false; exec = false; fill = Prog; align = 8; size = length bytes; bytes = bytes }

abbrev pub writable : ℕ → List ℕ → Section
writable number bytes = record { number = number; name = codes ".data"; write = true; exec = false; fill = Prog; align = 8; size = length bytes; bytes = bytes }

-- a GLOBAL at that offset of the section
abbrev pub defined : List ℕ → ℕ → ℕ → Symbol
defined name section value = record { name = name; bind = Global; sort = NoType; home = Inside section; value = value; size = 0 }

-- a LOCAL there
abbrev pub label : List ℕ → ℕ → ℕ → Symbol
label name section value = record { name = name; bind = Local; sort = NoType; home = Inside section; value = value; size = 0 }

abbrev pub undefined : List ℕ → Symbol
undefined name = record { name = name; bind = Global; sort = NoType; home = Undef; value = 0; size = 0 }

-- a WEAK at that offset of the section, and one that isn't defined
abbrev pub weakly_defined : List ℕ → ℕ → ℕ → Symbol
weakly_defined name section value = record { name = name; bind = Weak; sort = NoType; home = Inside section; value = value; size = 0 }

abbrev pub weakly_undefined : List ℕ → Symbol
weakly_undefined name = record { name = name; bind = Weak; sort = NoType; home = Undef; value = 0; size = 0 }

abbrev pub entry : ℕ → ℕ → RelKind → ℕ → ℤ → Entry
entry section offset kind symbol addend = record { section = section; offset = offset; kind = kind; symbol = symbol; addend = addend }

abbrev pub source : List ℕ → List Section → List Symbol → List Entry → Source
source name sections symbols entries = record { name = name; reading = Ok (record { sections = sections; symbols = symbols; entries = entries }) }

-- instructions by their words
abbrev pub code : List ℕ → List ℕ
code words = flat_map (bytes_of 4) words
