-- Who stands inside a sequence of instructions that a field is a part of.
--     partner_of object e         the high entry that a low one goes with
--     last_low c high             the greatest address of a low entry that goes with the high one
--     is_torn t f                 the task stands inside the field's sequence
--     first_torn fields tasks     the first task that stands inside one of them, and the lowest such field
use Rattle.std.specs.Prelude.{ℕ, ◌+◌, ◌==◌, nat_lt, nat_le, Bool, true, false, ◌&&◌, ◌||◌, List, [], ◌∷◌, Option, Some, None, map, filter, fold, max, option_map, if◌then◌else◌}
use Rattle.std.specs.Ordering.{int_eq}
use Rattle.cell_num.specs.declared.kinds.RelKind.{RelKind}
use Rattle.cell_num.specs.declared.kinds.RelKind.TheVariants.{Call, CallPlt, PcrelHi20, Hi20, Lo12I, Lo12S}
use Rattle.cell_num.specs.Kinds.{is_pcrel_lo12}
use Rattle.cell_num.specs.Lists.{or_else}
use Rattle.cell_object.specs.declared.object.Object.{Object}
use Rattle.cell_object.specs.declared.object.Entry.{Entry}
use Rattle.cell_object.specs.Parts.{high_of}
use Rattle.cell_world.specs.declared.refusal.Refusal.{Refusal}
use Rattle.cell_world.specs.declared.refusal.Refusal.TheVariants.{Torn}
use Rattle.cell_world.specs.declared.state.NewCell.{NewCell}
use Rattle.cell_world.specs.World.{Task}
use Rattle.cell_world.specs.Linked.Field.{place_of, is_at}
use Rattle.cell_world.specs.Changed.{FieldAt}

abbrev pub is_low : RelKind → Bool
is_low Lo12I = true
is_low Lo12S = true
is_low _ = false

abbrev pub is_high : RelKind → Bool
is_high Hi20 = true
is_high _ = false

-- a HI20 entry before the LO12 one in its section, with the same symbol and addend
abbrev pub may_be_high_of : Entry → Entry → Bool
may_be_high_of low h =
    is_high h.kind && h.section == low.section && nat_lt h.offset low.offset && h.symbol == low.symbol && int_eq h.addend low.addend

abbrev pub later_of : Option Entry → Entry → Option Entry
later_of None e = Some e
later_of (Some h) e = if nat_lt h.offset e.offset then Some e else Some h

-- a PCREL_LO12 entry goes with the PCREL_HI20 at its label, a LO12 entry with the last HI20 that may be its own
abbrev pub partner_of : Object → Entry → Option Entry
partner_of object e =
    if is_pcrel_lo12 e.kind then high_of object e else
    if is_low e.kind then fold later_of None (filter (may_be_high_of e) object.entries) else None

abbrev pub goes_with : Object → Entry → Entry → Bool
goes_with object high e = elim (partner_of object e) [ None ↦ false | Some h ↦ is_at high h ]

-- its own address where none goes with it
abbrev pub last_low : NewCell → Entry → ℕ
last_low c high = fold max (place_of c high) (map (place_of c) (filter (goes_with c.object high) c.object.entries))

-- behind the first instruction of a call's two, or behind the high part and not behind the last low one
abbrev pub is_inside : RelKind → NewCell → Entry → ℕ → Bool
is_inside Call c f pc = pc == place_of c f + 4
is_inside CallPlt c f pc = pc == place_of c f + 4
is_inside Hi20 c f pc = nat_lt (place_of c f) pc && nat_le pc (last_low c f)
is_inside PcrelHi20 c f pc = nat_lt (place_of c f) pc && nat_le pc (last_low c f)
is_inside _ c f pc = false

abbrev pub is_torn : Task → FieldAt → Bool
is_torn t f = is_inside f.field.kind f.cell.placed f.field t.pc

-- by cell, section and offset
abbrev pub is_lower : FieldAt → FieldAt → Bool
is_lower f g =
    nat_lt f.cell.id.0 g.cell.id.0
    || f.cell.id.0 == g.cell.id.0
    && (nat_lt f.field.section g.field.section || f.field.section == g.field.section && nat_lt f.field.offset g.field.offset)

abbrev pub lower_of : Option FieldAt → FieldAt → Option FieldAt
lower_of None f = Some f
lower_of (Some g) f = if is_lower f g then Some f else Some g

abbrev pub torn_refusal : Task → FieldAt → Refusal
torn_refusal t f = Torn t.number (record { 0 = f.cell.id.0 }) f.field.section f.field.offset

abbrev pub torn_of : List FieldAt → Task → Option Refusal
torn_of fields t = option_map (torn_refusal t) (fold lower_of None (filter (is_torn t) fields))

abbrev pub first_torn : List FieldAt → List Task → Option Refusal
first_torn fields [] = None
first_torn fields (t ∷ tasks) = or_else (torn_of fields t) (first_torn fields tasks)
