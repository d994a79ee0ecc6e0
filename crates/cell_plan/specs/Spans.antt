-- The addresses at which a task stands inside what a field is a part of.
--     span_in c f                 those of a field of the cell
--     span_at f                   the same of a field with its cell
--     torn_in spans t             the lowest span that the task stands in, as the answer for it
--     torn_among spans tasks      the answer for the first task that stands in one of them
use Rattle.std.specs.Prelude.{ℕ, ◌+◌, ◌==◌, nat_lt, nat_le, Bool, ◌&&◌, ◌||◌, List, [], ◌∷◌, Option, Some, None, filter, fold, option_map, if◌then◌else◌}
use Rattle.cell_num.specs.declared.kinds.RelKind.{RelKind}
use Rattle.cell_num.specs.declared.kinds.RelKind.TheVariants.{Call, CallPlt, PcrelHi20, Hi20}
use Rattle.cell_num.specs.Lists.{or_else}
use Rattle.cell_object.specs.declared.object.Entry.{Entry}
use Rattle.cell_world.specs.declared.refusal.Refusal.{Refusal}
use Rattle.cell_world.specs.declared.refusal.Refusal.TheVariants.{Torn as TornRefusal}
use Rattle.cell_world.specs.declared.state.NewCell.{NewCell}
use Rattle.cell_world.specs.World.{Task}
use Rattle.cell_world.specs.Linked.Field.{place_of}
use Rattle.cell_world.specs.Changed.{FieldAt}
use Rattle.cell_world.specs.Torn.{last_low}
use Rattle.cell_plan.specs.declared.span.Span.{Span}
use Rattle.cell_plan.specs.declared.torn.TaskPc.{TaskPc}
use Rattle.cell_plan.specs.declared.torn.Torn.{Torn}

-- behind the first instruction of a call's two, or behind the high part
abbrev pub first_inside : RelKind → NewCell → Entry → ℕ
first_inside Call c f = place_of c f + 4
first_inside CallPlt c f = place_of c f + 4
first_inside _ c f = place_of c f + 1

-- the second instruction of a call, or the last low part; any other kind has no address inside
abbrev pub last_inside : RelKind → NewCell → Entry → ℕ
last_inside Call c f = place_of c f + 4
last_inside CallPlt c f = place_of c f + 4
last_inside Hi20 c f = last_low c f
last_inside PcrelHi20 c f = last_low c f
last_inside _ c f = place_of c f

abbrev pub span_in : NewCell → Entry → Span
span_in c f =
    record {
      cell = c.id;
      section = f.section;
      offset = f.offset;
      first = first_inside f.kind c f;
      last = last_inside f.kind c f;
    }

abbrev pub span_at : FieldAt → Span
span_at f = span_in f.cell.placed f.field

abbrev pub is_in : ℕ → Span → Bool
is_in pc s = nat_le s.first pc && nat_le pc s.last

-- by cell, section and offset
abbrev pub is_lower_span : Span → Span → Bool
is_lower_span s t =
    nat_lt s.cell.0 t.cell.0
    || s.cell.0 == t.cell.0 && (nat_lt s.section t.section || s.section == t.section && nat_lt s.offset t.offset)

abbrev pub lower_span : Option Span → Span → Option Span
lower_span None s = Some s
lower_span (Some t) s = if is_lower_span s t then Some s else Some t

abbrev pub torn_at : TaskPc → Span → Torn
torn_at t s = record { task = t.task; cell = s.cell; section = s.section; offset = s.offset }

abbrev pub torn_in : List Span → TaskPc → Option Torn
torn_in spans t = option_map (torn_at t) (fold lower_span None (filter (is_in t.pc) spans))

abbrev pub torn_among : List Span → List TaskPc → Option Torn
torn_among spans [] = None
torn_among spans (t ∷ tasks) = or_else (torn_in spans t) (torn_among spans tasks)

abbrev pub pc_of : Task → TaskPc
pc_of t = record { task = t.number; pc = t.pc }

abbrev pub refusal_of : Torn → Refusal
refusal_of t = TornRefusal t.task t.cell t.section t.offset
