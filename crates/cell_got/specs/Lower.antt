-- The object of a file as it is placed and linked. An entry of kind GOT_HI20 asks for the address of a slot that holds its
-- symbol's address. The slots are a section of their own, each slot has a symbol, and an entry of kind 64 fills it.
--     slots_of object       the symbols that have a slot, in the order of first use
--     got_number object     the number of the section of slots
--     lower object          the object with that section, or as it is where no entry asks for a slot
--     lowered reading       what a file is read as, lowered where it keeps the rules
-- RISC-V ELF psABI, "Global Offset Table"
use Rattle.std.specs.Prelude.{Result, Ok, Err, ℕ, suc, ◌+◌, ◌*◌, true, false, pos, List, [], ◌∷◌, ◌++◌, length, replicate, map, filter, fold, max, codes, ◌==◌}
use Rattle.std.specs.List.{position_or_len}
use Rattle.cell_num.specs.Lists.{holds, numbered, upto}
use Rattle.cell_num.specs.declared.kinds.RelKind.TheVariants.{Abs64, PcrelHi20}
use Rattle.cell_object.specs.Bytes.{Broken}
use Rattle.cell_object.specs.Readable.{is_got}
use Rattle.cell_object.specs.declared.object.Object.{Object}
use Rattle.cell_object.specs.declared.object.Section.{Section}
use Rattle.cell_object.specs.declared.object.Symbol.{Symbol}
use Rattle.cell_object.specs.declared.object.Entry.{Entry}
use Rattle.cell_object.specs.declared.object.Bind.TheVariants.{Local}
use Rattle.cell_object.specs.declared.object.Sort.TheVariants.{NoType}
use Rattle.cell_object.specs.declared.object.Home.TheVariants.{Inside}
use Rattle.cell_object.specs.declared.object.Fill.TheVariants.{Prog}

-- each number once, where it stands first, but for those that were before
abbrev pub once_after : List ℕ → List ℕ → List ℕ
once_after before [] = []
once_after before (x ∷ xs) =
    elim (holds before x) [
      | true ↦ once_after before xs
      | false ↦ x ∷ once_after (x ∷ before) xs
    ]

-- the symbols that entries ask for slots of
abbrev pub asked : List Entry → List ℕ
asked entries = once_after [] (map (λ e. e.symbol) (filter is_got entries))

abbrev pub slots_of : Object → List ℕ
slots_of object = asked object.entries

-- one more than the greatest number of a section
abbrev pub got_number : Object → ℕ
got_number object = suc (fold (λ most s. max most s.number) 0 object.sections)

-- eight zero bytes a slot
abbrev pub got_section : ℕ → ℕ → Section
got_section number count =
    record {
      number = number;
      name = codes ".got";
      write = false;
      exec = false;
      fill = Prog;
      align = 8;
      size = 8 * count;
      bytes = replicate (8 * count) 0;
    }

-- a LOCAL without a name, at the slot
abbrev pub slot_symbol : ℕ → ℕ → Symbol
slot_symbol number slot =
    record { name = []; bind = Local; sort = NoType; home = Inside number; value = 8 * slot; size = 0 }

-- the slot holds the address of the symbol
abbrev pub slot_entry : ℕ → ℕ × ℕ → Entry
slot_entry number slot =
    record { section = number; offset = 8 * slot.0; kind = Abs64; symbol = slot.1; addend = pos 0 }

-- which slot the symbol has: how many slots stand before it
abbrev pub slot_of : List ℕ → ℕ → ℕ
slot_of slots symbol = position_or_len (λ x. x == symbol) slots

-- the entry that asks for a slot names the slot's symbol, the first of which has that number
abbrev pub lowered_entry : ℕ → List ℕ → Entry → Entry
lowered_entry first slots e =
    elim (is_got e) [
      | true ↦ record e { kind = PcrelHi20; symbol = first + slot_of slots e.symbol }
      | false ↦ e
    ]

-- symbols are numbered from 1
abbrev pub with_slots : ℕ → List ℕ → Object → Object
with_slots number slots object =
    record {
      sections = object.sections ++ got_section number (length slots) ∷ [];
      symbols = object.symbols ++ map (slot_symbol number) (upto (length slots));
      entries =
          map (lowered_entry (suc (length object.symbols)) slots) object.entries ++ map (slot_entry number) (numbered slots);
    }

abbrev pub lower_by : List ℕ → Object → Object
lower_by [] object = object
lower_by (x ∷ slots) object = with_slots (got_number object) (x ∷ slots) object

abbrev pub lower : Object → Object
lower object = lower_by (slots_of object) object

abbrev pub lowered : Result Object Broken → Result Object Broken
lowered (Ok object) = Ok (lower object)
lowered (Err broken) = Err broken
