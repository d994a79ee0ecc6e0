-- What holds of every object that was read from a file, before it is lowered: it would be sound if each GOT_HI20 entry were
-- a PCREL_HI20 entry, which has the same field, range and bits.
--     is_got e                   the entry asks for the address of its symbol's slot
--     plain object               the object with PCREL_HI20 entries for its GOT_HI20 entries
--     IsReadable object          so it is with every object that keeps the rules
--     HasRoomForSlots object     its slots are no more than a section may have
--     IsFromFile object          both, of a file that isn't too long
use Rattle.std.specs.Prelude.{◌<◌, ◌+◌, ◌^◌, nat_lt, Bool, true, false, not, ◌||◌, pos, IsTrue, map, length}
use Rattle.std.specs.List.{list_all}
use Rattle.std.specs.Ordering.{int_eq}
use Rattle.cell_num.specs.Kinds.{is_got_hi20}
use Rattle.cell_num.specs.declared.kinds.RelKind.TheVariants.{PcrelHi20}
use Rattle.cell_object.specs.declared.object.Object.{Object}
use Rattle.cell_object.specs.declared.object.Entry.{Entry}
use Rattle.cell_object.specs.Sound.{IsSoundObject}

abbrev pub is_got : Entry → Bool
is_got e = is_got_hi20 e.kind

abbrev pub plain_entry : Entry → Entry
plain_entry e = elim (is_got e) [ true ↦ record e { kind = PcrelHi20 } | false ↦ e ]

abbrev pub plain : Object → Object
plain object = record object { entries = map plain_entry object.entries }

-- a GOT_HI20 entry has no addend
abbrev pub is_bare : Entry → Bool
is_bare e = not (is_got e) || int_eq e.addend (pos 0)

pub record IsReadable (object : Object) : Type 0 where
  pub sound : IsSoundObject (plain object)
  pub bare : IsTrue (list_all is_bare object.entries)

-- There is a number for a section more, a section has room for a slot of each symbol, and there are numbers for the entries
-- of so many slots. A file of a mebibyte has room for no more.
pub record HasRoomForSlots (object : Object) : Type 0 where
  pub numbers : IsTrue (list_all (λ s. nat_lt s.number 65535) object.sections)
  pub symbols : length object.symbols < 2 ^ 20
  pub entries : length object.entries + 2 ^ 20 < 2 ^ 32

-- what holds of every object that is read from a file of at most a mebibyte
pub record IsFromFile (object : Object) : Type 0 where
  pub readable : IsReadable object
  pub room : HasRoomForSlots object
