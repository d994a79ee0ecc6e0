-- What entries ask of a symbol.
use Rattle.cell_object.specs.declared.object.Symbol.{Symbol}
use Rattle.cell_elf.specs.declared.symbols.Target.{Target}

abbrev pub target_of : Symbol → Target
target_of s = record { bind = s.bind; home = s.home; value = s.value }
