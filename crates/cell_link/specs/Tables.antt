-- What the look-ups of a cell give.
--     section_among sections q          the section of that number
--     number_among section e            the number in the field of an entry of that section
--     spot_cmp                          the order of sections and offsets
--     operands_of c b                   what the number of an entry is made of
--     high_among c bound q              the same of the PCREL_HI20 entry at that section and offset
--     IsNumberOf kind operands v r      the number by its operands, in a field that holds v, exactly where it fits
--     IsNumber c bound b v r            the number of the entry, in a field that holds v, exactly where it fits
--     IsHighs c bound highs             the map has the operands of each PCREL_HI20 entry
use Rattle.std.specs.Prelude.{◌≡◌, cond, Some, None, ℕ, ◌+◌, ◌==◌, ◌&&◌, Bool, ℤ, List, Option, Result, find, option_map, slice_range}
use Rattle.std.specs.declared.cmp.Ordering.{Ordering}
use Rattle.std.specs.Ordering.{nat_cmp, ordering_then}
use Rattle.std.specs.Option.{option_or}
use Rattle.std.specs.BTreeMap.{BTreeMap, get}
use Rattle.cell_num.specs.Bits.{little}
use Rattle.cell_num.specs.Kinds.{width_of, is_pcrel_hi20}
use Rattle.cell_num.specs.declared.kinds.RelKind.{RelKind}
use Rattle.cell_reloc.specs.Relocation.{value_of, does_fit}
use Rattle.cell_reloc.specs.Value.{IsValue}
use Rattle.cell_reloc.specs.declared.values.Unfit.{Unfit}
use Rattle.cell_object.specs.declared.object.Section.{Section}
use Rattle.cell_object.specs.declared.object.Entry.{Entry}
use Rattle.cell_world.specs.declared.state.NewCell.{NewCell}
use Rattle.cell_world.specs.Linked.Field.{Bound, fits, number_of, place_of}
use Rattle.cell_world.specs.Linked.Target.{address_of}
use Rattle.cell_link.specs.declared.numbers.Operands.{Operands}

abbrev pub section_among : List Section → ℕ → Option Section
section_among sections q = find (λ s. s.number == q) sections

abbrev pub number_among : Section → Entry → ℕ
number_among s e = little (slice_range s.bytes e.offset (e.offset + width_of e.kind))

abbrev pub spot_cmp : ℕ × ℕ → ℕ × ℕ → Ordering
spot_cmp p q = ordering_then (nat_cmp p.0 q.0) (nat_cmp p.1 q.1)

abbrev pub operands_of : NewCell → Bound → Operands
operands_of c b = record { target = address_of b.target; addend = b.entry.addend; place = place_of c b.entry }

abbrev pub is_high_at : ℕ × ℕ → Bound → Bool
is_high_at q h = is_pcrel_hi20 h.entry.kind && h.entry.section == q.0 && h.entry.offset == q.1

abbrev pub high_among : NewCell → List Bound → ℕ × ℕ → Option Operands
high_among c bound q = option_map (operands_of c) (find (is_high_at q) bound)

-- the number by its operands, in a field that holds v
abbrev pub number_by : RelKind → Operands → ℕ → ℤ
number_by kind o v = value_of kind o.target o.addend o.place v

abbrev pub IsNumberOf : RelKind → Operands → ℕ → Result ℕ Unfit → Type 0
IsNumberOf kind o v r = IsValue r (does_fit kind (number_by kind o v)) (number_by kind o v)

-- the number of an entry in a field that holds v, exactly where it fits
abbrev pub IsNumber : NewCell → List Bound → Bound → ℕ → Result ℕ Unfit → Type 0
IsNumber c bound b v r = IsValue r (fits c bound b) (number_of c bound b v)

abbrev pub Highs : Type 0
Highs = BTreeMap (ℕ × ℕ) Operands

abbrev pub IsHighs : NewCell → List Bound → Highs → Type 0
IsHighs c bound highs = (q : ℕ × ℕ) → get spot_cmp highs q ≡ high_among c bound q

-- one more entry: where it is a PCREL_HI20 entry and nothing is at its place, its operands are put there
abbrev pub IsHighInserted : NewCell → Bound → Highs → Highs → Type 0
IsHighInserted c b old new =
    (q : ℕ × ℕ) → get spot_cmp new q ≡ option_or (get spot_cmp old q) (cond (is_high_at q b) (Some (operands_of c b)) None)
