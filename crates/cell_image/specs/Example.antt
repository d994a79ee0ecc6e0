-- An object that can be written: a section of sixteen bytes with the GLOBAL `b::p`, whose first eight
-- are the place of `a::n` and 4.
use Rattle.std.specs.Prelude.{pos, false, [], ◌∷◌, codes}
use Rattle.cell_num.specs.declared.kinds.RelKind.TheVariants.{Abs64}
use Rattle.cell_object.specs.declared.object.Object.{Object}
use Rattle.cell_object.specs.declared.object.Section.{Section}
use Rattle.cell_object.specs.declared.object.Symbol.{Symbol}
use Rattle.cell_object.specs.declared.object.Entry.{Entry}
use Rattle.cell_object.specs.declared.object.Bind.TheVariants.{Global}
use Rattle.cell_object.specs.declared.object.Sort.TheVariants as sorts
use Rattle.cell_object.specs.declared.object.Home.TheVariants.{Undef, Inside}
use Rattle.cell_object.specs.declared.object.Fill.TheVariants.{Prog}

abbrev pub constants : Section
constants = record {
  number = 1;
  name = codes ".rodata";
  write = false;
  exec = false;
  fill = Prog;
  align = 8;
  size = 16;
  bytes = 0 ∷ 0 ∷ 0 ∷ 0 ∷ 0 ∷ 0 ∷ 0 ∷ 0 ∷ 1 ∷ 0 ∷ 0 ∷ 0 ∷ 0 ∷ 0 ∷ 0 ∷ 0 ∷ [];
}

abbrev pub defined : Symbol
defined = record { name = codes "b::p"; bind = Global; sort = sorts.NoType; home = Inside 1; value = 0; size = 0 }

abbrev pub wanted : Symbol
wanted = record { name = codes "a::n"; bind = Global; sort = sorts.NoType; home = Undef; value = 0; size = 0 }

abbrev pub place : Entry
place = record { section = 1; offset = 0; kind = Abs64; symbol = 2; addend = pos 4 }

abbrev pub pointer : Object
pointer = record { sections = constants ∷ []; symbols = defined ∷ wanted ∷ []; entries = place ∷ [] }
