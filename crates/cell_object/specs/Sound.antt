-- What holds of the object of each present cell, as it does of every object that was read.
use Rattle.std.specs.Prelude.{pos, ◌+◌, ◌%◌, ◌^◌, ◌<◌, ◌==◌, nat_lt, nat_le, Bool, IsTrue, true, false, not, ◌&&◌, ◌||◌, length, is_some, option_map, unwrap_or}
use Rattle.std.specs.List.{list_any, list_all}
use Rattle.std.specs.Ordering.{int_eq}
use Rattle.cell_num.specs.Limits.{max_section_bytes}
use Rattle.cell_num.specs.declared.kinds.RelKind.{RelKind}
use Rattle.cell_num.specs.declared.kinds.RelKind.TheVariants.{GotHi20}
use Rattle.cell_object.specs.declared.object.Object.{Object}
use Rattle.cell_object.specs.declared.object.Section.{Section}
use Rattle.cell_object.specs.declared.object.Symbol.{Symbol}
use Rattle.cell_object.specs.declared.object.Entry.{Entry}
use Rattle.cell_object.specs.declared.object.Sort.{Sort}
use Rattle.cell_object.specs.declared.object.Sort.TheVariants.{NoType, Object as DataSort, Func, Section as SectionSort, File}
use Rattle.cell_object.specs.declared.object.Home.{Home}
use Rattle.cell_object.specs.declared.object.Home.TheVariants.{Undef, Abs, Inside, Elsewhere}
use Rattle.cell_object.specs.declared.object.Fill.{Fill}
use Rattle.cell_object.specs.declared.object.Fill.TheVariants.{Zero}
use Rattle.cell_num.specs.Lists.{each_pair, equals, upto}
use Rattle.cell_object.specs.Symbols.{is_global_name}
use Rattle.cell_object.specs.Parts.{is_local, section_of, symbol_at, label_of, high_of}
use Rattle.cell_num.specs.Kinds.{width_of, is_instruction, is_stacking, is_pcrel_lo12}

abbrev pub is_zero : Fill → Bool
is_zero Zero = true
is_zero _ = false

abbrev pub is_sound_section : Section → Bool
is_sound_section s =
    not (s.write && s.exec) && list_any (λ k. s.align == 2 ^ k) (upto 13) && nat_le s.size max_section_bytes
    && (is_zero s.fill || length s.bytes == s.size)

abbrev pub is_plain_sort : Sort → Bool
is_plain_sort SectionSort = false
is_plain_sort File = false
is_plain_sort NoType = true
is_plain_sort DataSort = true
is_plain_sort Func = true

-- a symbol in a section has its value in it; an absolute one is LOCAL, as is one in a section that isn't loaded
abbrev pub is_sound_home : Object → Symbol → Home → Bool
is_sound_home object s Undef = true
is_sound_home object s Abs = is_local s.bind
is_sound_home object s (Inside n) =
    unwrap_or (option_map (λ section. nat_le s.value section.size) (section_of object n)) false
is_sound_home object s Elsewhere = is_local s.bind

abbrev pub is_sound_symbol : Object → Symbol → Bool
is_sound_symbol object s =
    is_sound_home object s s.home && (is_local s.bind || is_global_name s.name && is_plain_sort s.sort)

-- an entry names symbol 0, a GLOBAL or WEAK, or a LOCAL that has a place or an absolute value
abbrev pub is_nameable : Symbol → Home → Bool
is_nameable s Undef = not (is_local s.bind)
is_nameable s Abs = true
is_nameable s (Inside n) = true
is_nameable s Elsewhere = false

abbrev pub is_sound_entry_in : Entry → Section → Bool
is_sound_entry_in e s =
    not (is_zero s.fill) && nat_le (e.offset + width_of e.kind) s.size
    && (not (is_instruction e.kind) || s.exec && (e.offset % 4 == 0))

-- the kinds that an object may have
abbrev pub is_known_kind : RelKind → Bool
is_known_kind GotHi20 = false
is_known_kind _ = true

-- a PCREL_LO12 entry has no addend, and its label is in its own section at a PCREL_HI20 entry
abbrev pub is_sound_entry : Object → Entry → Bool
is_sound_entry object e =
    is_known_kind e.kind
    && unwrap_or (option_map (is_sound_entry_in e) (section_of object e.section)) false
    && (e.symbol == 0 || unwrap_or (option_map (λ s. is_nameable s s.home) (symbol_at object e.symbol)) false)
    && (not (is_pcrel_lo12 e.kind)
    || int_eq e.addend (pos 0) && is_some (high_of object e)
    && unwrap_or (option_map (λ label. label.0 == e.section) (label_of object e)) false)

-- two entries that share a byte are at one field, and both add, take or set
abbrev pub may_share : Entry → Entry → Bool
may_share e f =
    not (e.section == f.section)
    || nat_le (e.offset + width_of e.kind) f.offset || nat_le (f.offset + width_of f.kind) e.offset
    || (e.offset == f.offset) && (width_of e.kind == width_of f.kind) && is_stacking e.kind && is_stacking f.kind

-- no two symbols have the same name, LOCAL ones aside
abbrev pub may_both_be : Symbol → Symbol → Bool
may_both_be a b = is_local a.bind || is_local b.bind || not (equals a.name b.name)

pub record IsSoundObject (object : Object) : Type 0 where
  -- section numbers rise
  pub numbers : IsTrue (each_pair (λ a b. nat_lt a.number b.number) object.sections)
  pub sections : IsTrue (list_all is_sound_section object.sections)
  pub symbols : IsTrue (list_all (is_sound_symbol object) object.symbols)
  pub names : IsTrue (each_pair may_both_be object.symbols)
  pub entries : IsTrue (list_all (is_sound_entry object) object.entries)
  pub apart : IsTrue (each_pair may_share object.entries)

-- an object that a present cell may have
pub record IsLoadable (object : Object) : Type 0 where
  pub sound : IsSoundObject object
  pub symbols : length object.symbols < 2 ^ 32
  pub entries : length object.entries < 2 ^ 32
